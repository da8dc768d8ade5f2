-- The octet at fault lies in its section, or is its end.
use Prim.Native.Nat.{ℕ, ◌+◌, ◌-◌, ◌≤◌}
use mathlib.Core.Path.{◌≡◌}
use mathlib.Core.List.{List}
use native.Mathlib.Omega.{arith}
use lib.ListN.{length, drop, length-drop}
use lib.Seq.{length-take-le}
use Rattle.rules.specs.Fields.{length_at, points_at}
use Rattle.base_format.specs.Fields.{greatest_at}
use Rattle.base_format.specs.Parts.{data_at}
use Rattle.base_format.specs.Checks.{data_fault}
use Rattle.sections.specs.declared.Context.{Context}
use Rattle.runs.proofs.Fault.{fault_inside}

-- the data of a section that lies in the file
pub data_length : (s : List ℕ) (at : ℕ) → 5 ≤ length_at s at → at + length_at s at ≤ length s → length (data_at s at) ≡ length_at s at - 5
unfolding data_at
data_length s at five lies = length-take-le (length_at s at - 5) (drop (at + 5) s) (omega (arith, length-drop (at + 5) s))

pub fault_upto : (s : List ℕ) (x : Context) (at : ℕ) → 5 ≤ length_at s at → at + length_at s at ≤ length s → data_fault s x at ≤ at + length_at s at
fault_upto s x at five lies = omega (arith, data_length s at five lies, fault_inside (greatest_at s x.section5) (points_at s x.section3) (data_at s at))
