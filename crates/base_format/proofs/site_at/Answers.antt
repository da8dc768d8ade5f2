-- The field of that name.
use Rattle.base_format.specs.Fields.{site_at}
use Rattle.base_format.proofs.site_at.Goals as goal

pub returns : goal.returns
unfolding site_at
returns c = c.field.ensures
