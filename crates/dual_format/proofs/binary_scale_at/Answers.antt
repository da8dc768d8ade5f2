-- The field of that name.
use Rattle.dual_format.specs.Fields.{binary_scale_at}
use Rattle.dual_format.proofs.binary_scale_at.Goals as goal

pub returns : goal.returns
unfolding binary_scale_at
returns c = c.field.ensures
