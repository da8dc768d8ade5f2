-- `digit_count` meets its contract: the digits counted and those of what is left make all.
use Prim.Native.Nat.{ℕ}
use mathlib.Core.Path.{ap}
use native.Mathlib.Omega.{arith}
use lib.ListN.{length}
use Rattle.packing.specs.Write.{digits_of}
use Rattle.packing.proofs.Digits.{digits_zero, digits_more, digits_short}
use Rattle.packing.proofs.digit_count.Goals as goal

pub overflow_add-n : goal.overflow_add-n
overflow_add-n c = record { fits = omega (arith, digits_short c.args.base c.args.number, c.loop-m.invariant) }

pub loop-m-preserved : goal.loop-m-preserved
loop-m-preserved c = omega (arith, c.loop-m.invariant, ap length (digits_more c.args.base c.loop-m.m (omega arith) (omega arith)))

pub returns : goal.returns
returns c = omega (arith, c.loop-m.invariant, ap (λ (m : ℕ). length (digits_of c.args.base m)) c.loop-m-test.false, ap length (digits_zero c.args.base))
