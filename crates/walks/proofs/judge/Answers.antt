-- By the number of the section: 1 and 6 here, the rest by the format.
use Rattle.sections.specs.Checks.{section_checks}
use borrow.Author.Tests.{ne_eqb}
use native.Mathlib.Omega.{arith}
use Rattle.walks.proofs.judge.Goals as goal

pub returns-in-1 : goal.returns-in-1
unfolding section_checks
returns-in-1 g c = rw c.in-1.is c.judge1.ensures

pub returns-in-6 : goal.returns-in-6
unfolding section_checks
returns-in-6 g c = rw c.in-6.is c.judge6.ensures

pub returns-in_default : goal.returns-in_default
unfolding section_checks
returns-in_default g c = rw (ne_eqb c.args.n 1 (λ e. omega arith), ne_eqb c.args.n 6 (λ e. omega arith)) c.judge.ensures
