-- By the number of the section.
use Rattle.dual_format.specs.Checks.{dual_checks}
use borrow.Author.Tests.{ne_eqb}
use native.Mathlib.Omega.{arith}
use Rattle.dual_format.proofs.DualPolarisationFileFormat.judge.Goals as goal

pub returns-in-3 : goal.returns-in-3
unfolding dual_checks
returns-in-3 c = rw c.in-3.is c.judge3.ensures

pub returns-in-4 : goal.returns-in-4
unfolding dual_checks
returns-in-4 c = rw c.in-4.is c.judge4.ensures

pub returns-in-5 : goal.returns-in-5
unfolding dual_checks
returns-in-5 c = rw c.in-5.is c.judge5.ensures

pub returns-in_default : goal.returns-in_default
unfolding dual_checks
returns-in_default c = rw (ne_eqb c.args.n 3 (λ e. omega arith), ne_eqb c.args.n 4 (λ e. omega arith), ne_eqb c.args.n 5 (λ e. omega arith), ne_eqb c.args.n 7 c.requires.fact)
