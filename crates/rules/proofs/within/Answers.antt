-- Two comparisons of the field, as the rule has them.
use Rattle.rules.specs.Rules.{meets}
use Rattle.rules.proofs.within.Goals as goal

pub returns : goal.returns
unfolding meets
returns g c = rw (c.wide-n.ensures.value, c.wide.ensures.value, c.wide-2.ensures.value, c.field.ensures)
