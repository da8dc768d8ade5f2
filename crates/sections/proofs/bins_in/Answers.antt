-- The field of section 3.
use Rattle.sections.specs.Parts.{bins_in}
use Rattle.rules.specs.Fields.{bins_at}
use Rattle.sections.proofs.bins_in.Goals as goal

pub returns : goal.returns
unfolding bins_in bins_at
returns c = c.bins_at.ensures
