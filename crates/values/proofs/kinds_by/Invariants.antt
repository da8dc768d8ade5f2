use mathlib.Core.Path.{◌≡◌}
use Prim.Native.Nat.{ℕ, ◌<◌}
use Rattle.kinds.specs.KindTable.{kind_number}
use lib.ListN.{length, get_or}
use Rattle.values.specs.Reading.{reading_of, kind_of}
use Rattle.values.proofs.kinds_by.Given as goal

abbrev pub invariant-loop-level : goal.invariant-loop-level
invariant-loop-level l = (length l.numbers ≡ 256) × ((k : ℕ) → k < l.level → get_or l.numbers k 0 ≡ kind_number (kind_of (reading_of l.product k) l.t))
