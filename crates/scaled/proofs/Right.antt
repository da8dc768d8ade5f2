-- A cell's number is right: the sum rounds once and the division once, each by one part in 2^53, and the sum is never too small to keep all its digits.
use mathlib.Core.Path.{◌≡◌, subst}
use mathlib.Core.Bool.{true, false}
use Prim.Native.Nat.{ℕ, ◌+◌, ◌*◌, ◌^◌, ◌≤◌, ◌<◌, zero-le}
use native.Mathlib.Nat.{le_trans, le_of_lt, lt_of_le_of_lt, mul-le-mul, mul-le-mul_right, mul-le-mul_left, mul-pos, pow-le-pow_right}
use native.Mathlib.Omega.{arith}
use lib.Dec.{T, lit≤, lit<}
use lib.IntN.{ℤ, pos, nat_abs}
use lib.Pow.{pow_mono, pow_pos}
use lib.Ieee.{binary32, binary64, add, of_int, of_bits, fits}
use lib.Ieee.Fits.{div-fits}
use Rattle.fraction.specs.Near.{negative, NearZ}
use Rattle.fraction.proofs.Quotient.{of_int_val}
use Rattle.fraction.proofs.Steps.{over, zero_of_near, div_near}
use Rattle.fraction.proofs.Sum.{size-le, sum_near}
use Rattle.scaled.specs.Scaled.{negative_single, single_size, single_units, finite_single, exact_numerator, exact_denominator, Right, scaled_value}
use Rattle.scaled.proofs.Single.{single_value, size_most}

-- Z × 2^E and 10^D are small: for both widths, as Z is at most 16 bits
pub shifted : (z e : ℕ) → z < 65536 → e ≤ 2 → z * 2 ^ e ≤ 2 ^ 18
shifted z e h k = le_trans (mul-le-mul (le_of_lt h) (pow_mono k)) (lit≤ tt)

ten_pos : (d : ℕ) → 0 < 10 ^ d
ten_pos d = pow-le-pow_right (lit< tt) {i = 0} {j = d} zero-le

ten_most : (d : ℕ) → d ≤ 4 → 10 ^ d ≤ 10000
ten_most d h = pow-le-pow_right {n = 10} (lit< tt) h

module _ (b z e : ℕ) (finite : finite_single b ≡ true) (Z : z < 65536) (E : e ≤ 2) where
  -- R + Z × 2^E, in size
  size : single_size b + z * 2 ^ e * 2 ^ 149 ≤ 2 ^ 278
  size = le_trans (both (size_most b finite) (mul-le-mul_right (2 ^ 149) (shifted z e Z E))) (lit≤ tt)
    where
      both : {x y u w : ℕ} → x ≤ u → y ≤ w → x + y ≤ u + w
      both h k = omega arith

  sum_right : NearZ 53 (add binary64 (of_bits binary32 b) (of_int binary64 (pos (z * 2 ^ e)))) (exact_numerator b z e) (2 ^ 149)
  unfolding single_units exact_numerator
  sum_right =
      let n = z * 2 ^ e in
      sum_near binary64 (of_bits binary32 b) (of_int binary64 (pos n)) (negative_single b) (single_size b) (n * 2 ^ 149) (2 ^ 149) (pow_pos 149) (lit≤ tt)
      (lt_of_le_of_lt size (lit< tt))
      (single_value b finite)
      (over (of_int binary64 (pos n)) false n (2 ^ 149) (of_int_val binary64 (pos n) (le_trans (shifted z e Z E) (lit≤ tt))))

  top_size : nat_abs (exact_numerator b z e) ≤ 2 ^ 278
  unfolding single_units exact_numerator
  top_size = le_trans (size-le (negative_single b) (single_size b) (z * 2 ^ e * 2 ^ 149)) size

  near : (d : ℕ) → d ≤ 4 → NearZ 51 (scaled_value b z e d) (exact_numerator b z e) (exact_denominator d)
  unfolding scaled_value exact_denominator
  near d D =
      div_near binary64 (negative (exact_numerator b z e)) (add binary64 (of_bits binary32 b) (of_int binary64 (pos (z * 2 ^ e)))) (nat_abs (exact_numerator b z e)) (2 ^ 149) (10 ^ d) (pow_pos 149) (ten_pos d)
      (le_trans (ten_most d D) (lit≤ tt))
      (le_trans (mul-le-mul_left (2 ^ 52) (mul-le-mul_left (2 * 2 ^ 149) (ten_most d D))) (lit≤ tt))
      (lt_of_le_of_lt (mul-le-mul_left 2 top_size) (lit< tt))
      sum_right

bottom_pos : (d : ℕ) → 0 < exact_denominator d
unfolding exact_denominator
bottom_pos d = mul-pos (pow_pos 149) (ten_pos d)

held : (b z e d : ℕ) → T (fits binary64 (scaled_value b z e d))
unfolding scaled_value
held b z e d = div-fits binary64 (add binary64 (of_bits binary32 b) (of_int binary64 (pos (z * 2 ^ e)))) (of_int binary64 (pos (10 ^ d)))

-- THE LAW: near, and zero where Y is 0
pub scaled_right : (b z e d : ℕ) → finite_single b ≡ true → z < 65536 → e ≤ 2 → d ≤ 4 → Right (scaled_value b z e d) b z e d
scaled_right b z e d finite Z E D =
    let y = scaled_value b z e d in
    let n : NearZ 51 y (exact_numerator b z e) (exact_denominator d) = near b z e finite Z E d D in
    (n, λ none. zero_of_near binary64 51 false y (exact_denominator d) (bottom_pos d) (held b z e d) (subst (λ (t : ℤ). NearZ 51 y t (exact_denominator d)) none n))
