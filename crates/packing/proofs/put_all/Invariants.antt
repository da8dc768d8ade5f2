use Prim.Native.Nat.{◌≤◌}
use mathlib.Core.Path.{◌≡◌}
use lib.ListN.{length, take, drop}
use Rattle.lent.specs.Lent.{front}
use Rattle.packing.specs.Write.{on_from, written}
use Rattle.packing.proofs.put_all.Given as goal

abbrev pub invariant-loop-y : goal.invariant-loop-y
invariant-loop-y l = (l.k ≤ l.y-index) × (l.at ≤ length (written l.v l.levels)) × (drop l.at (written l.v l.levels) ≡ on_from l.v l.x l.k (drop l.y-index l.rest)) × (l.out ≡ front (take l.at (written l.v l.levels)) l.initial.out)
