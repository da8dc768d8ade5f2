-- Each number of the table, and none besides.
use Rattle.std.proofs.Common.{rules}
use mathlib.Core.Path.{refl}
use native.Mathlib.Omega.{arith}
use borrow.Author.Tests.{ne_eqb}
use Rattle.kinds.specs.KindTable.{kind_by}
use Rattle.kinds.proofs.by_number.Goals as goal

pub returns-in-0 : goal.returns-in-0
unfolding kind_by
returns-in-0 c = rw c.in-0.is refl

pub returns-in-1 : goal.returns-in-1
unfolding kind_by
returns-in-1 c = rw c.in-1.is refl

pub returns-in-2 : goal.returns-in-2
unfolding kind_by
returns-in-2 c = rw c.in-2.is refl

pub returns-in_default : goal.returns-in_default
unfolding kind_by
returns-in_default c = simp (ne_eqb c.args.number 0 (λ e. omega arith), ne_eqb c.args.number 1 (λ e. omega arith), ne_eqb c.args.number 2 (λ e. omega arith))
