-- The four octets of a finite single stand for their whole number of units of 2^-149, and for at most 2^277 of them.
use mathlib.Core.Path.{◌≡◌, sym, subst}
use mathlib.Core.Bool.{Bool, true, false, not, cond, ◌&&◌}
use Prim.Native.Nat.{ℕ, zero, suc, ◌+◌, ◌-◌, ◌*◌, ◌^◌, ◌≤◌, ◌<◌}
use native.Mathlib.Nat.{le_trans, le_of_lt, mul-one, mod-lt, mul-le-mul, div-lt_iff_lt-mul}
use native.Mathlib.Omega.{arith}
use borrow.Author.Tests.{not-true, eqb-false}
use lib.Dec.{T, eqb, eqb-suc-zero, lit≤, lit<}
use lib.Pow.{pow_mono}
use lib.Ieee.{Float, nan, inf, fin, binary32, binary64, of_bits, of_fields, odd, fits, is_nan, nan_bits}
use lib.Ieee.Fits.{and_i, fits_widens}
use lib.Ieee.Bits.{nan_bits_is, of_bits-fits}
use lib.Ieee.Exact.{HasValue, odd_sign}
use Rattle.scaled.specs.Scaled.{negative_single, exponent_of, mantissa_of, single_size, finite_single}

-- ---- the value, from the fields: sign s, exponent x, mantissa m
fields_value : (s : Bool) (x m : ℕ) → eqb x 255 ≡ false → HasValue (of_fields binary32 s x m) s (cond (eqb x 0) m ((8388608 + m) * 2 ^ (x - 1))) (2 ^ 149)
unfolding of_fields
fields_value s zero m h = subst (λ (n : ℕ). HasValue (odd 24 s m 0 149) s n (2 ^ 149)) (mul-one m) (odd_sign 24 s m 0 149)
fields_value s (suc x) m h =
    rw (h, eqb-suc-zero) (subst (λ (k : ℕ). HasValue (odd 24 s (8388608 + m) x 149) s ((8388608 + m) * 2 ^ k) (2 ^ 149)) (before x) (odd_sign 24 s (8388608 + m) x 149))
  where
    before : (k : ℕ) → k ≡ suc k - 1
    before k = omega arith

pub single_value : (b : ℕ) → finite_single b ≡ true → HasValue (of_bits binary32 b) (negative_single b) (single_size b) (2 ^ 149)
unfolding of_bits single_size
single_value b h = fields_value (negative_single b) (exponent_of b) (mantissa_of b) (not-true _ h)

-- ---- its size
pub size_most : (b : ℕ) → finite_single b ≡ true → single_size b ≤ 2 ^ 277
unfolding single_size
size_most b h = go (eqb (exponent_of b) 0)
  where
    m : mantissa_of b < 8388608
    m = mod-lt b (lit< tt)

    e : exponent_of b < 256
    e = (div-lt_iff_lt-mul {k = 8388608} (lit< tt)).1 (mod-lt b (lit< tt))

    least : (k : ℕ) → k < 256 → (k ≡ 255 → ⊥) → k - 1 ≤ 253
    least k l n = omega arith

    whole : (k : ℕ) → k < 8388608 → 8388608 + k ≤ 16777216
    whole k l = omega arith

    go : (t : Bool) → cond t (mantissa_of b) ((8388608 + mantissa_of b) * 2 ^ (exponent_of b - 1)) ≤ 2 ^ 277
    go true = le_trans (le_of_lt m) (lit≤ tt)
    go false = le_trans (mul-le-mul (whole (mantissa_of b) m) (pow_mono (least (exponent_of b) e (eqb-false _ _ (not-true _ h))))) (lit≤ tt)

-- ---- what the machine asks of it: to be a number, and to be one of 64 bits
is_number : (x : Float) (s : Bool) (a c : ℕ) → HasValue x s a c → T (not (is_nan x))
unfolding is_nan
is_number nan s a c v = v
is_number (inf t) s a c v = absurd v
is_number (fin t m e) s a c v = tt

single_number : (b : ℕ) → finite_single b ≡ true → T (not (is_nan (of_bits binary32 b)))
single_number b h = is_number (of_bits binary32 b) (negative_single b) (single_size b) (2 ^ 149) (single_value b h)

pub bits_number : (b : ℕ) → finite_single b ≡ true → T (not (nan_bits binary32 b))
bits_number b h = subst (λ (t : Bool). T (not t)) (sym (nan_bits_is binary32 b)) (single_number b h)

pub single_widens : (b : ℕ) → finite_single b ≡ true → T (fits binary64 (of_bits binary32 b) && not (is_nan (of_bits binary32 b)))
single_widens b h = and_i (fits binary64 (of_bits binary32 b)) (not (is_nan (of_bits binary32 b))) (fits_widens (of_bits binary32 b) (of_bits-fits binary32 b)) (single_number b h)
