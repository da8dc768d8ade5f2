use Prim.Native.Nat.{◌-◌}
use Rattle.runs.proofs.Upto.{Upto}
use Rattle.index.proofs.reaches.Given as goal

abbrev pub invariant-loop-run : goal.invariant-loop-run
invariant-loop-run l = Upto l.v l.octets l.want l.at l.bins

abbrev pub decreases-loop-run : goal.decreases-loop-run
decreases-loop-run l = l.want - l.bins
