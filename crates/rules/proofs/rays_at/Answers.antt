-- The field of that name.
use Rattle.rules.specs.Fields.{rays_at}
use Rattle.rules.proofs.rays_at.Goals as goal

pub returns : goal.returns
unfolding rays_at
returns c = c.field.ensures
