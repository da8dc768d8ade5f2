-- A cut of a run-length packed file by the octets of its sections. (proofs/ByOctets.antt: the calls tell this of it, wherever it stands.)
use Rattle.std.specs.Prelude.{ℕ, ◌+◌, ◌*◌, List, drop, ℤ}
use Rattle.rules.specs.Fields.{bins_at, rays_at, parameter_at}
use Rattle.base_format.specs.Fields.{greatest_at}
use Rattle.runs.specs.Run.{levels}
use Rattle.values.specs.declared.Product.{Product}
use Rattle.base_format.specs.Parts.{product_of}
use Rattle.stretches.specs.Stretch.{Entry}
use Rattle.stretches.specs.Call.{kind_by_threshold, stretches_from}
use Rattle.files.specs.File.{Parts}

-- the product, the levels and the stretches of a cut, by its octets
abbrev pub product_by : Parts → Product
product_by p = product_of (parameter_at p.four 0)

abbrev pub levels_by : Parts → List ℕ
levels_by p = levels (greatest_at p.five 0) (drop 5 p.seven)

abbrev pub stretches_by : Parts → ℤ → ℕ → ℕ → List Entry
stretches_by p t ray bin =
    stretches_from (kind_by_threshold (product_by p) t) (greatest_at p.five 0) (drop 5 p.seven) (bins_at p.three 0) (rays_at p.three 0) (ray * bins_at p.three 0 + bin)
