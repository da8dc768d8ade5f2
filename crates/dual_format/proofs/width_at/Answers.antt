-- The field of that name.
use Rattle.dual_format.specs.Fields.{width_at}
use Rattle.dual_format.proofs.width_at.Goals as goal

pub returns : goal.returns
unfolding width_at
returns c = c.field.ensures
