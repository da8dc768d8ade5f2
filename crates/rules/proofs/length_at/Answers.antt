-- The field of that name.
use Rattle.rules.specs.Fields.{length_at}
use Rattle.rules.proofs.length_at.Goals as goal

pub returns : goal.returns
unfolding length_at
returns c = c.field.ensures
