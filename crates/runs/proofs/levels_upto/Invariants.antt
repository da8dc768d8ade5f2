use Prim.Native.Nat.{◌-◌}
use mathlib.Core.Path.{◌≡◌}
use Rattle.lent.specs.Lent.{between, front}
use Rattle.runs.specs.Run.{levels}
use Rattle.runs.proofs.Upto.{Upto}
use Rattle.runs.proofs.levels_upto.Given as goal

abbrev pub invariant-loop-run : goal.invariant-loop-run
invariant-loop-run l = Upto l.v l.octets l.b l.at l.bins × (l.out ≡ front (between l.a l.bins (levels l.v l.octets)) l.initial.out)

abbrev pub decreases-loop-run : goal.decreases-loop-run
decreases-loop-run l = l.b - l.bins
