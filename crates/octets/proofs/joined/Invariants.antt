use Rattle.std.proofs.Common.{◌≡◌}
use Rattle.octets.specs.Octets.{be}
use Rattle.octets.proofs.joined.Given as goal

abbrev pub invariant-loop-octet : goal.invariant-loop-octet
invariant-loop-octet l = l.n ≡ be l.octets 0 l.octet-index
