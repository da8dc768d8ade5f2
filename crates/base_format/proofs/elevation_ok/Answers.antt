-- One rule or the other, as the code tests them.
use Rattle.rules.specs.Rules.{meets}
use Rattle.rules.proofs.Chains.{one_of}
use Rattle.base_format.proofs.elevation_ok.Goals as goal

pub returns : goal.returns
unfolding meets
returns c = one_of c.magnitude.ensures c.within.ensures
