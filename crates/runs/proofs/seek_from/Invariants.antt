use Prim.Native.Nat.{◌≤◌, ◌+◌, ◌-◌}
use Rattle.runs.specs.Inner.{InHand}
use Rattle.runs.proofs.seek_from.Given as goal

abbrev pub invariant-loop-run : goal.invariant-loop-run
invariant-loop-run l = (l.bins ≤ l.a) × InHand l.v l.octets (record { at = l.at; bins = l.bins; end = l.end; next = l.next })

abbrev pub decreases-loop-run : goal.decreases-loop-run
decreases-loop-run l = l.a + 1 - l.end
