use Prim.Native.Nat.{◌+◌, ◌≤◌}
use mathlib.Core.Path.{◌≡◌}
use lib.ListN.{length, drop}
use Rattle.packing.specs.Write.{on_from, written}
use Rattle.packing.proofs.measure.Given as goal

abbrev pub invariant-loop-y : goal.invariant-loop-y
invariant-loop-y l = (l.total + l.k ≤ l.y-index) × (l.total + length (on_from l.v l.x l.k (drop l.y-index l.rest)) ≡ length (written l.v l.levels))
