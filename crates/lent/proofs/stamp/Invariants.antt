use Rattle.std.proofs.Common.{◌≡◌, ◌-◌, replicate}
use Rattle.lent.specs.Lent.{placed}
use Rattle.lent.proofs.stamp.Given as goal

abbrev pub invariant-loop-i : goal.invariant-loop-i
invariant-loop-i g l = l.out ≡ placed l.initial.out l.lo (replicate (l.i - l.lo) l.x)
