use Rattle.std.proofs.Common.{◌≡◌}
use Rattle.octets.specs.Octets.{be}
use Rattle.octets.proofs.cut_off.Given as goal

abbrev pub invariant-loop-i : goal.invariant-loop-i
invariant-loop-i g l = l.n ≡ be l.octets 0 l.i
