-- A cut of a dual-polarisation file by the octets of its sections. (proofs/DualByOctets.antt: the calls tell this of it, wherever it stands.)
use Rattle.std.specs.Prelude.{ℕ, ◌+◌, ◌*◌, ◌/◌, Option, Float}
use Rattle.rules.specs.Rules.{field}
use Rattle.rules.specs.Fields.{bins_at}
use Rattle.scaled.specs.Scaled.{cell_of}
use Rattle.dual_format.specs.Fields.{reference_at, binary_scale_at, decimal_scale_at, width_at}
use Rattle.files.specs.File.{Parts}

-- the cell of bin b of ray r, and what it tells
abbrev pub cell_by : Parts → ℕ → ℕ → ℕ
cell_by p r b = field p.seven 0 (6 + (r * bins_at p.three 0 + b) * (width_at p.five 0 / 8)) (width_at p.five 0 / 8)

abbrev pub told_by : Parts → ℕ → ℕ → Option Float
told_by p r b = cell_of (width_at p.five 0) (reference_at p.five 0) (binary_scale_at p.five 0) (decimal_scale_at p.five 0) (cell_by p r b)
