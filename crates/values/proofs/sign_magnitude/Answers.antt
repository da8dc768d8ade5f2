-- One law for a value below zero, one from zero on.
use mathlib.Core.Path.{◌∙◌, ap}
use Prim.Native.Nat.{◌+◌}
use native.Mathlib.Omega.{arith}
use lib.IntN.{ℤ, nat_abs}
use Rattle.values.proofs.Magnitude.{below, excess}
use Rattle.values.proofs.sign_magnitude.Goals as goal

pub overflow_cast-result-then-w-lt0 : goal.overflow_cast-result-then-w-lt0
overflow_cast-result-then-w-lt0 c = let b = below c.args.value c.ranges.value c.if-w-lt0.true in rw b.1 (record { fits = omega (arith, b.3, c.requires) })

pub returns-then-w-lt0 : goal.returns-then-w-lt0
returns-then-w-lt0 c = let b = below c.args.value c.ranges.value c.if-w-lt0.true in ap (λ (z : ℤ). 32768 + nat_abs z) b.1 ∙ b.3

pub returns : goal.returns
returns c = (excess c.args.value c.ranges.value c.if-w-lt0.false).2
