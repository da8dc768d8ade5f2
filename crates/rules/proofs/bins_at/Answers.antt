-- The field of that name.
use Rattle.rules.specs.Fields.{bins_at}
use Rattle.rules.proofs.bins_at.Goals as goal

pub returns : goal.returns
unfolding bins_at
returns c = c.field.ensures
