-- The test of the definition.
use Rattle.sections.specs.Checks.{closes}
use Rattle.sections.proofs.is_closed.Goals as goal

pub returns : goal.returns
unfolding closes
returns c = cc
