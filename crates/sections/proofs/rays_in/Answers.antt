-- The field of section 3.
use Rattle.sections.specs.Parts.{rays_in}
use Rattle.rules.specs.Fields.{rays_at}
use Rattle.sections.proofs.rays_in.Goals as goal

pub returns : goal.returns
unfolding rays_in rays_at
returns c = c.rays_at.ensures
