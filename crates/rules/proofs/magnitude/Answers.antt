-- The remainder by the sign bit is the magnitude.
use Rattle.rules.specs.Rules.{meets}
use Rattle.rules.proofs.magnitude.Goals as goal

pub returns : goal.returns
unfolding meets
returns g c = rw (c.wide.ensures.value, c.wide-2.ensures.value, c.field.ensures, c.sign_bit.ensures)
