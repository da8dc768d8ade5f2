-- FORMAT.md, "Dual-polarisation files": the cells of a cut, and what each tells.
use Rattle.std.specs.Prelude.{ℕ, ◌+◌, ◌*◌, ◌/◌, List, Option, Float}
use Rattle.rules.specs.Rules.{field}
use Rattle.scaled.specs.Scaled.{cell_of}
use Rattle.sections.specs.Parts.{bins_in}
use Rattle.sections.specs.declared.Cut.{Cut}
use Rattle.dual_format.specs.Fields.{reference_at, binary_scale_at, decimal_scale_at, width_at}

-- R, E, D and the width, of the cut's section 5
unfoldable pub reference_in : List ℕ → Cut → ℕ
reference_in s c = reference_at s c.section5

unfoldable pub binary_scale_in : List ℕ → Cut → ℕ
binary_scale_in s c = binary_scale_at s c.section5

unfoldable pub decimal_scale_in : List ℕ → Cut → ℕ
decimal_scale_in s c = decimal_scale_at s c.section5

unfoldable pub width_in : List ℕ → Cut → ℕ
width_in s c = width_at s c.section5

-- section 7: cells from octet 6 on, of width/8 octets each, big-endian; bin b of ray r is cell r x Nb + b
unfoldable pub cell_in : List ℕ → Cut → ℕ → ℕ → ℕ
cell_in s c r b = field s c.section7 (6 + (r * bins_in s c + b) * (width_in s c / 8)) (width_in s c / 8)

-- what it tells
unfoldable pub told_in : List ℕ → Cut → ℕ → ℕ → Option Float
told_in s c r b = cell_of (width_in s c) (reference_in s c) (binary_scale_in s c) (decimal_scale_in s c) (cell_in s c r b)
