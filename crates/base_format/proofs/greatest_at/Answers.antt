-- The field of that name.
use Rattle.base_format.specs.Fields.{greatest_at}
use Rattle.base_format.proofs.greatest_at.Goals as goal

pub returns : goal.returns
unfolding greatest_at
returns c = c.field.ensures
