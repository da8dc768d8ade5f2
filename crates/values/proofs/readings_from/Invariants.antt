use Prim.Native.Nat.{◌-◌}
use mathlib.Core.Path.{◌≡◌}
use Rattle.lent.specs.Lent.{between, updated}
use Rattle.runs.specs.Run.{levels}
use Rattle.runs.proofs.Upto.{Upto}
use Rattle.values.specs.Ray.{mark_at, held_at}
use Rattle.values.proofs.readings_from.Given as goal

abbrev pub invariant-loop-run : goal.invariant-loop-run
invariant-loop-run l = Upto l.v l.octets l.b l.at l.bins × (l.marks ≡ updated (mark_at l.product) (between l.a l.bins (levels l.v l.octets)) l.initial.marks) × (l.values ≡ updated (held_at l.product) (between l.a l.bins (levels l.v l.octets)) l.initial.values)

abbrev pub decreases-loop-run : goal.decreases-loop-run
decreases-loop-run l = l.b - l.bins
