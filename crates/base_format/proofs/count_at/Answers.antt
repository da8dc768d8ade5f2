-- The field of that name.
use Rattle.base_format.specs.Fields.{count_at}
use Rattle.base_format.proofs.count_at.Goals as goal

pub returns : goal.returns
unfolding count_at
returns c = c.field.ensures
