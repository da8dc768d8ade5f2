-- By the test.
use Rattle.base_format.specs.Parts.{product_of}
use borrow.Author.Tests.{eq-eqb, ne_eqb}
use Rattle.base_format.proofs.product_of.Goals as goal

pub returns-then-parameter-eq1 : goal.returns-then-parameter-eq1
unfolding product_of
returns-then-parameter-eq1 c = rw (eq-eqb _ _ c.if-parameter-eq1.true)

pub returns-else-parameter-eq1 : goal.returns-else-parameter-eq1
unfolding product_of
returns-else-parameter-eq1 c = rw (ne_eqb _ _ c.if-parameter-eq1.false)
