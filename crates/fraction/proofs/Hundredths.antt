-- Hundredths: one division by 100 lies within one part in 2 ^ 53 of the exact hundredths, and zero is zero.
use mathlib.Core.Path.{◌≡◌, refl, ap, ◌∙◌}
use mathlib.Core.Bool.{false}
use Prim.Native.Nat.{ℕ, ◌^◌, ◌≤◌, ◌<◌}
use lib.Dec.{lit≤, lit<}
use lib.IntN.{ℤ, pos, nat_abs}
use lib.Ieee.{Float, fin, binary64, div, of_int, of_bits}
use mir.Syntax.{w32}
use mir.Val.{SFits, to_z, of_z}
use mir.Facts.{to_z-of_z}
use Rattle.fraction.specs.Near.{NearZ}
use Rattle.fraction.specs.Quotient.{quotient, hundredths}
use Rattle.fraction.proofs.Quotient.{quotient_near, quotient_zero}

-- any divisor that a 64-bit float counts
pub near : (z : ℤ) (d : ℕ) → nat_abs z ≤ 2 ^ 53 → 0 < d → d ≤ 2 ^ 53 → NearZ 53 (quotient z d) z d
unfolding quotient
near z d h k l = quotient_near binary64 z d h k l

pub zero_is_zero : (d : ℕ) → 0 < d → d ≤ 2 ^ 53 → quotient (pos 0) d ≡ fin false 0 (pos 0)
unfolding quotient
zero_is_zero d k l = quotient_zero binary64 d k l

pub hundredths_near : (z : ℤ) → nat_abs z ≤ 2 ^ 53 → NearZ 53 (hundredths z) z 100
unfolding hundredths
hundredths_near z h = near z 100 h (lit< tt) (lit≤ tt)

pub hundredths_zero : hundredths (pos 0) ≡ fin false 0 (pos 0)
unfolding hundredths
hundredths_zero = zero_is_zero 100 (lit< tt) (lit≤ tt)

-- the literal 100.0
hundred : of_bits binary64 4636737291354636288 ≡ of_int binary64 (pos 100)
unfolding of_bits of_int
hundred = refl

-- what the machine works out, at 32 bits
pub worked_out : (z : ℤ) → SFits w32 z → div binary64 (of_int binary64 (to_z w32 (of_z w32 z))) (of_bits binary64 4636737291354636288) ≡ hundredths z
unfolding quotient hundredths
worked_out z f =
    ap (λ (x : ℤ). div binary64 (of_int binary64 x) (of_bits binary64 4636737291354636288)) (to_z-of_z f)
    ∙ ap (λ (y : Float). div binary64 (of_int binary64 z) y) hundred
