-- The field of that name.
use Rattle.dual_format.specs.Fields.{reference_at}
use Rattle.dual_format.proofs.reference_at.Goals as goal

pub returns : goal.returns
unfolding reference_at
returns c = c.field.ensures
