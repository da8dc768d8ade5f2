-- By the tests of ray and bin.
use mathlib.Core.Path.{sym}
use mathlib.Core.Bool.{or-false}
use native.Mathlib.Omega.{arith}
use borrow.Author.Tests.{le-ltb, lt-ltb, eq-eqb, ne_eqb}
use lib.Dec.{ltb}
use Rattle.stretches.specs.Call.{right_point}
use Rattle.stretches.proofs.right_point.Goals as goal

pub returns-then-ray-nr : goal.returns-then-ray-nr
unfolding right_point
returns-then-ray-nr c = rw (lt-ltb c.args.ray c.args.nr c.if-ray-nr.true, ne_eqb c.args.ray c.args.nr (λ e. omega (arith, c.if-ray-nr.true))) (sym (or-false (ltb c.args.bin c.args.nb)))

pub returns-then-ray-nr-2 : goal.returns-then-ray-nr-2
unfolding right_point
returns-then-ray-nr-2 c = rw (le-ltb c.args.ray c.args.nr c.if-ray-nr.false, eq-eqb c.args.ray c.args.nr c.if-ray-nr-2.true)

pub returns-else-ray-nr-2 : goal.returns-else-ray-nr-2
unfolding right_point
returns-else-ray-nr-2 c = rw (le-ltb c.args.ray c.args.nr c.if-ray-nr.false, ne_eqb c.args.ray c.args.nr c.if-ray-nr-2.false)
