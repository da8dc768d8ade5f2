-- The bins of one cut: "Bin b of ray r is level r x Nb + b" (FORMAT.md, "Run-length rule"), and its stretches (FORMAT.md, "Calls").
use Rattle.std.specs.Prelude.{ℕ, ◌+◌, ◌*◌, List, take, drop, ℤ}
use Rattle.sections.specs.Parts.{bins_in, rays_in}
use Rattle.base_format.specs.Parts.{data_at, product_in, greatest_in, levels_in}
use Rattle.sections.specs.declared.Cut.{Cut}
use Rattle.stretches.specs.Stretch.{Entry}
use Rattle.stretches.specs.Call.{kind_by_threshold, stretches_from}

-- so many levels of a cut, from a place on
unfoldable pub bins_from : List ℕ → Cut → ℕ → ℕ → List ℕ
bins_from s c from count = take count (drop from (levels_in s c))

-- the levels of ray r: Nb of them from level r x Nb on
unfoldable pub ray_in : List ℕ → Cut → ℕ → List ℕ
ray_in s c r = bins_from s c (r * bins_in s c) (bins_in s c)

-- the stretches of a cut at a threshold that start at the point (ray, bin) or past it, in order
unfoldable pub stretches_in : List ℕ → Cut → ℤ → ℕ → ℕ → List Entry
stretches_in s c t ray bin =
    stretches_from (kind_by_threshold (product_in s c) t) (greatest_in s c) (data_at s c.section7) (bins_in s c) (rays_in s c) (ray * bins_in s c + bin)
