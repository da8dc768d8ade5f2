-- One rule or the other, as the code tests them.
use Rattle.rules.specs.Rules.{meets}
use Rattle.rules.proofs.Chains.{one_of}
use Rattle.rules.proofs.mode_ok.Goals as goal

pub returns : goal.returns
unfolding meets
returns c = one_of c.within.ensures c.within-2.ensures
