-- The field of that name.
use Rattle.rules.specs.Fields.{parameter_at}
use Rattle.rules.proofs.parameter_at.Goals as goal

pub returns : goal.returns
unfolding parameter_at
returns c = c.field.ensures
