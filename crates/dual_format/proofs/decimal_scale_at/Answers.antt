-- The field of that name.
use Rattle.dual_format.specs.Fields.{decimal_scale_at}
use Rattle.dual_format.proofs.decimal_scale_at.Goals as goal

pub returns : goal.returns
unfolding decimal_scale_at
returns c = c.field.ensures
