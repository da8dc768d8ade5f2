-- One rule or the other, as the code tests them.
use Rattle.rules.specs.Rules.{meets}
use Rattle.rules.proofs.Chains.{one_of}
use Rattle.dual_format.proofs.width_ok.Goals as goal

pub returns : goal.returns
unfolding meets
returns c = one_of c.within.ensures c.within-2.ensures
