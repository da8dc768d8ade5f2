-- By the number of the section: the fields that it changes.
use Rattle.walks.specs.Walk.{past}
use borrow.Author.Tests.{ne_eqb}
use native.Mathlib.Omega.{arith}
use mathlib.Core.Path.{refl}
use Rattle.walks.proofs.passed.Goals as goal

pub returns-in-3 : goal.returns-in-3
unfolding past
returns-in-3 c = rw c.in-3.is refl

pub returns-in-4 : goal.returns-in-4
unfolding past
returns-in-4 c = rw (c.in-4.is, c.first_in.ensures) refl

pub returns-in-5 : goal.returns-in-5
unfolding past
returns-in-5 c = rw c.in-5.is refl

pub returns-in-7 : goal.returns-in-7
unfolding past
returns-in-7 c = rw c.in-7.is refl

pub returns-in_default : goal.returns-in_default
unfolding past
returns-in_default c = rw (ne_eqb c.args.n 3 (λ e. omega arith), ne_eqb c.args.n 4 (λ e. omega arith), ne_eqb c.args.n 5 (λ e. omega arith), ne_eqb c.args.n 7 (λ e. omega arith)) refl
