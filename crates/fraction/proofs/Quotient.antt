-- One division of whole numbers that the format counts: the result is within one part in 2 ^ prec of the fraction, and zero is zero.
use mathlib.Core.Path.{◌≡◌, refl, sym, ap, ◌∙◌, subst}
use mathlib.Core.Logic.{◌⊎◌, inl, inr}
use mathlib.Core.Bool.{Bool, true, false, cond}
use Prim.Native.Nat.{ℕ, suc, ◌+◌, ◌-◌, ◌*◌, ◌^◌, ◌≤◌, ◌<◌, zero-le}
use native.Mathlib.Nat.{le_trans, le_of_eq, lt_of_lt_of_le, lt_of_le_of_lt, lt_irrefl, zero-lt-suc, eq-zero-or-pos, mul-one, one-mul, zero-mul, mul_comm, mul_assoc, mul_left_comm, mul-le-mul_right, mul-le-mul_left, mul-pos}
use native.Mathlib.Omega.{arith}
use lib.Dec.{T, eqb, eqb→eq, lit≤, lit<}
use lib.IntN.{ℤ, pos, negsuc, nat_abs}
use lib.Pow.{pow-add, pow_pos, pow_mono, pow-lt}
use lib.Ieee.{Float, nan, inf, fin, Format, binary32, binary64, prec, emax, low, up, down, unlike, round, div, of_int, fits}
use lib.Ieee.Fits.{up_pos, down_pos, round-fits}
use lib.Ieee.Exact.{HasValue, round_exact}
use lib.Ieee.Back.{round_whole, whole_unique}
use lib.Ieee.Positive.{first_pos}
use lib.Ieee.Scale.{round_same}
use Rattle.fraction.specs.Near.{dist, Near, negative}
use Rattle.fraction.proofs.Round.{transfer, round_near}

-- ---- a value that is the fraction itself is near it
none_off : (a p : ℕ) → dist a a * 2 ^ p ≤ a
none_off a p = le_trans (le_of_eq (ap (λ (x : ℕ). x * 2 ^ p) (same a) ∙ zero-mul (2 ^ p))) zero-le
  where
    same : (x : ℕ) → dist x x ≡ 0
    same x = omega arith

pub exact_near : (p : ℕ) (s : Bool) (x : Float) (a d : ℕ) → 0 < d → HasValue x s a d → Near p s x a d
exact_near p s x a d D v = transfer p s x a d a d D v (none_off (a * d) p)

-- ---- zero
pub round_zero : (f : Format) (s : Bool) (d : ℕ) → 0 < d → HasValue (round f s 0 d) s 0 d
round_zero f s d D =
    round_exact f s 0 d 0 0 D (pow_pos (prec f)) (subst (λ (x : ℕ). x < 2 ^ (low f + suc (emax f))) (sym (zero-mul (2 ^ 0))) (pow_pos (low f + suc (emax f))))
    (zero-mul (2 ^ low f) ∙ sym (ap (λ (x : ℕ). x * d) (zero-mul (2 ^ 0)) ∙ zero-mul d))

-- a zero in size, whatever the fraction that says so
pub unscaled : (x : Float) (s : Bool) (d : ℕ) → 0 < d → HasValue x s 0 d → HasValue x s 0 1
unscaled nan s d D v = v
unscaled (inf t) s d D v = v
unscaled (fin t m e) s d D v = (v.0, none (eq-zero-or-pos (m * up e)))
  where
    none : (m * up e ≡ 0) ⊎ (0 < m * up e) → m * up e * 1 ≡ 0 * down e
    none (inl z) = ap (λ (x : ℕ). x * 1) z ∙ zero-mul 1 ∙ sym (zero-mul (down e))
    none (inr h) = absurd (lt_irrefl 0 (subst (λ (x : ℕ). 0 < x) (v.1 ∙ zero-mul (down e)) (mul-pos h D)))

pub zero_fits : (f : Format) (s : Bool) → T (fits f (fin s 0 (pos 0)))
unfolding fits
zero_fits f s = tt

pub zero_is : (f : Format) (s : Bool) (d : ℕ) → 0 < d → round f s 0 d ≡ fin s 0 (pos 0)
zero_is f s d D = whole_unique f (round f s 0 d) (fin s 0 (pos 0)) s 0 (round-fits f s 0 d) (zero_fits f s) (unscaled (round f s 0 d) s d D (round_zero f s d D)) (refl, refl)

-- ---- a / d for whole numbers that the format counts: normal, and far from overflow
deep : (f : Format) → prec f - 1 + prec f ≤ low f
deep binary32 = lit≤ tt
deep binary64 = lit≤ tt

wide : (f : Format) → prec f < emax f
wide binary32 = lit< tt
wide binary64 = lit< tt

pub small_near : (f : Format) (s : Bool) (a d : ℕ) → a ≤ 2 ^ prec f → 0 < d → d ≤ 2 ^ prec f → Near (prec f) s (round f s a d) a d
small_near f s a d A D L = go (eq-zero-or-pos a)
  where
    go : (a ≡ 0) ⊎ (0 < a) → Near (prec f) s (round f s a d) a d
    go (inl z) = subst (λ (x : ℕ). Near (prec f) s (round f s x d) x d) (sym z) (exact_near (prec f) s (round f s 0 d) 0 d D (round_zero f s d D))
    go (inr h) =
        round_near f s a d D
        (le_trans (mul-le-mul_left (2 ^ (prec f - 1)) L)
        (le_trans (le_of_eq (sym (pow-add 2 (prec f - 1) (prec f))))
        (le_trans (pow_mono (deep f)) (le_trans (le_of_eq (sym (one-mul (2 ^ low f)))) (mul-le-mul_right (2 ^ low f) h)))))
        (lt_of_le_of_lt A (lt_of_lt_of_le (pow-lt (wide f)) (le_trans (le_of_eq (sym (mul-one (2 ^ emax f)))) (mul-le-mul_left (2 ^ emax f) D))))

-- ---- the quotient of two values, by any fractions that they equal
pub div_at : (f : Format) (x y : Float) (s t : Bool) (a b c d : ℕ) → 0 < b → 0 < c → 0 < d → HasValue x s a b → HasValue y t c d → div f x y ≡ round f (unlike s t) (a * d) (b * c)
unfolding div
div_at f nan y s t a b c d B C D h k = absurd h
div_at f (inf s') y s t a b c d B C D h k = absurd h
div_at f (fin s' m e) nan s t a b c d B C D h k = absurd k
div_at f (fin s' m e) (inf t') s t a b c d B C D h k = absurd k
div_at f (fin s' m e) (fin t' n g) s t a b c d B C D h k = go (eqb n 0) (eqb→eq n 0)
  where
    N : 0 < n
    N = first_pos n (up g) (first_pos (n * up g) d (subst (λ (z : ℕ). 0 < z) (sym k.1) (mul-pos C (down_pos g))))

    U : 0 < n * up g * down e
    U = mul-pos (mul-pos N (up_pos g)) (down_pos e)

    cross : m * up e * down g * (b * c) ≡ a * d * (n * up g * down e)
    cross =
        let p : m * up e * down g * (b * c) ≡ m * up e * b * (down g * c) = simp (mul_assoc, mul_comm, mul_left_comm) in
        let q : a * down e * (c * down g) ≡ a * down e * (n * up g * d) = ap (λ (z : ℕ). a * down e * z) (sym k.1) in
        let r : a * down e * (n * up g * d) ≡ a * d * (n * up g * down e) = simp (mul_assoc, mul_comm, mul_left_comm) in
        p ∙ ap (λ (z : ℕ). z * (down g * c)) h.1 ∙ ap (λ (z : ℕ). a * down e * z) (mul_comm (down g) c) ∙ q ∙ r

    go : (z : Bool) → (T z → n ≡ 0)
        → cond z (cond (eqb m 0) nan (inf (unlike s' t'))) (round f (unlike s' t') (m * up e * down g) (n * up g * down e)) ≡ round f (unlike s t) (a * d) (b * c)
    go true z = absurd (lt_irrefl 0 (subst (λ (x : ℕ). 0 < x) (z tt) N))
    go false z =
        ap (λ (u : Bool). round f (unlike u t') (m * up e * down g) (n * up g * down e)) h.0
        ∙ ap (λ (u : Bool). round f (unlike s u) (m * up e * down g) (n * up g * down e)) k.0
        ∙ round_same f (unlike s t) (m * up e * down g) (n * up g * down e) (a * d) (b * c) U (mul-pos B C) cross

-- ---- a whole number divided once by a whole number
pub of_int_val : (f : Format) (z : ℤ) → nat_abs z ≤ 2 ^ prec f → HasValue (of_int f z) (negative z) (nat_abs z) 1
unfolding of_int
of_int_val f (pos n) h = round_whole f false n h
of_int_val f (negsuc n) h = round_whole f true (suc n) h

pub plain : (s : Bool) → unlike s false ≡ s
plain true = refl
plain false = refl

pub div_whole : (f : Format) (z : ℤ) (d : ℕ) → nat_abs z ≤ 2 ^ prec f → 0 < d → d ≤ 2 ^ prec f → div f (of_int f z) (of_int f (pos d)) ≡ round f (negative z) (nat_abs z) d
div_whole f z d A D L =
    div_at f (of_int f z) (of_int f (pos d)) (negative z) false (nat_abs z) 1 d 1 (zero-lt-suc 0) D (zero-lt-suc 0) (of_int_val f z A) (of_int_val f (pos d) L)
    ∙ ap (λ (s : Bool). round f s (nat_abs z * 1) (1 * d)) (plain (negative z))
    ∙ ap (λ (x : ℕ). round f (negative z) x (1 * d)) (mul-one (nat_abs z))
    ∙ ap (λ (x : ℕ). round f (negative z) (nat_abs z) x) (one-mul d)

pub quotient_near : (f : Format) (z : ℤ) (d : ℕ) → nat_abs z ≤ 2 ^ prec f → 0 < d → d ≤ 2 ^ prec f
    → Near (prec f) (negative z) (div f (of_int f z) (of_int f (pos d))) (nat_abs z) d
quotient_near f z d A D L = subst (λ (x : Float). Near (prec f) (negative z) x (nat_abs z) d) (sym (div_whole f z d A D L)) (small_near f (negative z) (nat_abs z) d A D L)

pub quotient_zero : (f : Format) (d : ℕ) → 0 < d → d ≤ 2 ^ prec f → div f (of_int f (pos 0)) (of_int f (pos d)) ≡ fin false 0 (pos 0)
quotient_zero f d D L = div_whole f (pos 0) d zero-le D L ∙ zero_is f false d D
