-- Before each section: the state mirrors the history (`Along`), and the verdict from here on is the whole verdict; the place comes nearer to the end.
use Rattle.walks.proofs.Along.{Along}
use Prim.Native.Nat.{◌-◌}
use Rattle.walks.proofs.walk_to.Given as goal

abbrev pub invariant-loop-next : goal.invariant-loop-next
invariant-loop-next g l = Along g.F.FileFormat.own l.s l.end l.want l.st l.chosen

abbrev pub decreases-loop-next : goal.decreases-loop-next
decreases-loop-next g l = l.end - l.st.at
