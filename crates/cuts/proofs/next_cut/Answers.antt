-- By what stands past the cut.
use Rattle.cuts.specs.After.{cut_after}
use Rattle.rules.specs.Fields.{number_at}
use borrow.Author.Tests.{eq-eqb, ne_eqb}
use Rattle.cuts.proofs.next_cut.Goals as goal

pub returns-then-number_at-eq3 : goal.returns-then-number_at-eq3
unfolding cut_after
returns-then-number_at-eq3 c = rw (← c.end_at-at.ensures, ← c.number_at.ensures, eq-eqb _ 3 c.if-number_at-eq3.true, ← c.end_at.ensures) c.body_at.ensures

pub returns-else-number_at-eq3 : goal.returns-else-number_at-eq3
unfolding cut_after
returns-else-number_at-eq3 c = rw (← c.end_at-at.ensures, ← c.number_at.ensures, ne_eqb _ 3 c.if-number_at-eq3.false) c.body_at-else-number_at-eq3.ensures
