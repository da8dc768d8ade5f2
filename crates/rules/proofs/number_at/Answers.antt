-- The field of that name.
use Rattle.rules.specs.Fields.{number_at}
use Rattle.rules.proofs.number_at.Goals as goal

pub returns : goal.returns
unfolding number_at
returns c = c.field.ensures
