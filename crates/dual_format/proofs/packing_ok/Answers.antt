-- Both tests, as the definition has them.
use Rattle.dual_format.specs.Fields.{reference_at}
use Rattle.dual_format.proofs.packing_ok.Goals as goal

pub returns : goal.returns
unfolding reference_at
returns c = cc
