-- As the definition has it.
use Rattle.sections.specs.Refusal.{refuse}
use mathlib.Core.Path.{refl}
use Rattle.sections.proofs.refuse.Goals as goal

pub returns : goal.returns
unfolding refuse
returns c = refl
