-- The field of that name.
use Rattle.dual_format.specs.Fields.{site_at}
use Rattle.dual_format.proofs.site_at.Goals as goal

pub returns : goal.returns
unfolding site_at
returns c = c.field.ensures
