-- By the two tests.
use borrow.Author.Tests.{eq-eqb, ne_eqb}
use Rattle.walks.proofs.chosen_after.Goals as goal

pub returns-then-n-ne7 : goal.returns-then-n-ne7
returns-then-n-ne7 c = rw (ne_eqb _ _ c.if-n-ne7.true)

pub returns-then-st-want : goal.returns-then-st-want
returns-then-st-want c = rw (eq-eqb _ _ c.if-n-ne7.false, eq-eqb _ _ c.if-st-want.true) c.cut_ended.ensures

pub returns : goal.returns
returns c = rw (eq-eqb _ _ c.if-n-ne7.false, ne_eqb _ _ c.if-st-want.false)
