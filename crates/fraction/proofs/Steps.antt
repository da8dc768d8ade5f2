-- A value that is near a fraction, divided once more by a whole number: two roundings.
use mathlib.Core.Path.{◌≡◌, refl, sym, ap, ◌∙◌, subst}
use mathlib.Core.Logic.{◌⊎◌, inl, inr}
use mathlib.Core.Bool.{Bool, false}
use Prim.Native.Nat.{ℕ, ◌+◌, ◌-◌, ◌*◌, ◌^◌, ◌≤◌, ◌<◌}
use native.Mathlib.Nat.{le_trans, le_of_eq, lt_of_lt_of_le, lt_of_le_of_lt, lt_irrefl, zero-lt-suc, eq-zero-or-pos, mul-one, one-mul, zero-mul, mul_comm, mul_assoc, mul_left_comm, mul_right_comm, add-mul, mul-le-mul_right, mul-le-mul_left, mul-lt-mul_of_pos_right, lt_of_mul-lt-mul_right, le_of_mul-le-mul_right, mul-pos}
use native.Mathlib.Omega.{arith}
use lib.Dec.{T}
use lib.IntN.{pos}
use lib.Pow.{pow-add, pow_pos, pow_mono}
use lib.Ieee.{Float, nan, inf, fin, Format, prec, emax, low, up, down, round, div, of_int, fits}
use lib.Ieee.Fits.{down_pos, two, two-le_pos}
use lib.Ieee.Exact.{HasValue}
use lib.Ieee.Back.{whole_unique}
use Rattle.fraction.specs.Near.{dist, Near}
use Rattle.fraction.proofs.Round.{dist_scale, round_near}
use Rattle.fraction.proofs.Quotient.{exact_near, round_zero, unscaled, zero_fits, div_at, of_int_val, plain}

-- ---- a whole number, as a fraction of any denominator
pub over : (x : Float) (s : Bool) (n c : ℕ) → HasValue x s n 1 → HasValue x s (n * c) c
over nan s n c v = v
over (inf t) s n c v = v
over (fin t m e) s n c v = (v.0, ap (λ (k : ℕ). k * c) (sym (mul-one (m * up e)) ∙ v.1) ∙ mul_right_comm n (down e) c)

-- ---- near nothing is nothing
pub zero_value : (p : ℕ) (s : Bool) (x : Float) (d : ℕ) → 0 < d → Near p s x 0 d → HasValue x s 0 1
zero_value p s nan d D h = h
zero_value p s (inf t) d D h = h
zero_value p s (fin t m e) d D h = unscaled (fin t m e) s d D (h.0, only (m * up e * d) h.1)
  where
    none : (D c : ℕ) → 0 < c → D * c ≤ 0 → D ≡ 0
    none D c C k = elim (eq-zero-or-pos D) [ inl z ↦ z | inr z ↦ absurd (lt_irrefl 0 (lt_of_lt_of_le (mul-pos z C) k)) ]

    apart : (u v : ℕ) → dist u v ≡ 0 → u ≡ v
    apart u v k = omega arith

    only : (u : ℕ) → dist u (0 * down e) * 2 ^ p ≤ 0 * down e → u ≡ 0 * down e
    only u k = apart u (0 * down e) (none (dist u (0 * down e)) (2 ^ p) (pow_pos p) (le_trans k (le_of_eq (zero-mul (down e)))))

pub zero_of_near : (f : Format) (p : ℕ) (s : Bool) (x : Float) (d : ℕ) → 0 < d → T (fits f x) → Near p s x 0 d → x ≡ fin s 0 (pos 0)
zero_of_near f p s x d D t h = whole_unique f x (fin s 0 (pos 0)) s 0 t (zero_fits f s) (zero_value p s x d D h) (refl, refl)

-- ---- U is within one part in P of T, and W of U
two_steps : (W U T P : ℕ) → 0 < P → dist U T * P ≤ T → dist W U * P ≤ U → dist W T * P ≤ 4 * T
two_steps W U T P p h k =
    le_trans (mul-le-mul_right P (sum W U T))
    (le_trans (le_of_eq (add-mul (dist W U) (dist U T) P)) (total (dist W U * P) (dist U T * P) (dist U T) U T h k (once (dist U T) P p) (apart U T)))
  where
    sum : (x y z : ℕ) → dist x z ≤ dist x y + dist y z
    sum x y z = omega arith

    once : (x y : ℕ) → 0 < y → x ≤ x * y
    once x y h = le_trans (le_of_eq (sym (mul-one x))) (mul-le-mul_left x h)

    apart : (x y : ℕ) → x ≤ y + dist x y
    apart x y = omega arith

    total : (b a d u t : ℕ) → a ≤ t → b ≤ u → d ≤ a → u ≤ t + d → b + a ≤ 4 * t
    total b a d u t h k l m = omega arith

-- ---- x near A / C is A / C to a factor of 2
twice : (d P : ℕ) → 2 ≤ P → d * 2 ≤ d * P
twice d P h = mul-le-mul_left d h

pub at_most : (U T P : ℕ) → 2 ≤ P → dist U T * P ≤ T → U ≤ 2 * T
at_most U T P p h = go (dist U T) (le_trans (twice (dist U T) P p) h) (near U T)
  where
    near : (u t : ℕ) → u ≤ t + dist u t
    near u t = omega arith

    go : (d : ℕ) → d * 2 ≤ T → U ≤ T + d → U ≤ 2 * T
    go d k l = omega arith

pub at_least : (U T P : ℕ) → 2 ≤ P → dist U T * P ≤ T → T ≤ 2 * U
at_least U T P p h = go (dist U T) (le_trans (twice (dist U T) P p) h) (near U T)
  where
    near : (u t : ℕ) → t ≤ u + dist u t
    near u t = omega arith

    go : (d : ℕ) → d * 2 ≤ T → T ≤ U + d → T ≤ 2 * U
    go d k l = omega arith

-- ---- the exponents
quarter : (p : ℕ) → 2 ≤ p → 2 ^ p ≡ 4 * 2 ^ (p - 2)
quarter p h = ap (λ (k : ℕ). 2 ^ k) (again p h) ∙ pow-add 2 2 (p - 2)
  where
    again : (x : ℕ) → 2 ≤ x → x ≡ 2 + (x - 2)
    again x h = omega arith

two_le_pow : (p : ℕ) → 2 ≤ p → 2 ≤ 2 ^ p
two_le_pow p h = pow_mono (two-le_pos p h)

-- ---- both roundings together: x near A / C, and q near x / D
joined : (p : ℕ) (s : Bool) (q : Float) (A C D xn xd : ℕ) → 2 ≤ p → 0 < xd → dist (xn * C) (A * xd) * 2 ^ p ≤ A * xd → Near p s q xn (xd * D) → Near (p - 2) s q A (C * D)
joined p s nan A C D xn xd P X h k = k
joined p s (inf t) A C D xn xd P X h k = k
joined p s (fin t m e) A C D xn xd P X h k =
    let qn = m * up e in
    let qd = down e in
    let W = qn * (xd * D) * C in
    let U = xn * C * qd in
    let S = A * xd * qd in
    let R = 2 ^ (p - 2) in
    let h1 : dist U S * 2 ^ p ≤ S =
    le_trans (le_of_eq (ap (λ (z : ℕ). z * 2 ^ p) (dist_scale (xn * C) (A * xd) qd) ∙ mul_right_comm (dist (xn * C) (A * xd)) qd (2 ^ p))) (mul-le-mul_right qd h) in
    let h2 : dist W U * 2 ^ p ≤ U =
    le_trans (le_of_eq (ap (λ (z : ℕ). dist W z * 2 ^ p) (mul_right_comm xn C qd) ∙ ap (λ (z : ℕ). z * 2 ^ p) (dist_scale (qn * (xd * D)) (xn * qd) C) ∙ mul_right_comm (dist (qn * (xd * D)) (xn * qd)) C (2 ^ p)))
    (le_trans (mul-le-mul_right C k.1) (le_of_eq (mul_right_comm xn qd C))) in
    let both : dist W S * 2 ^ p ≤ 4 * S = two_steps W U S (2 ^ p) (pow_pos p) h1 h2 in
    let v : W ≡ qn * (C * D) * xd = simp (mul_assoc, mul_comm, mul_left_comm) in
    let w : S ≡ A * qd * xd = mul_right_comm A xd qd in
    let E = dist (qn * (C * D)) (A * qd) in
    let e : dist W S ≡ E * xd = ap (λ (z : ℕ). dist z S) v ∙ ap (λ (z : ℕ). dist (qn * (C * D) * xd) z) w ∙ dist_scale (qn * (C * D)) (A * qd) xd in
    let l : dist W S * 2 ^ p ≡ E * R * 4 * xd =
    ap (λ (z : ℕ). z * 2 ^ p) e ∙ ap (λ (z : ℕ). E * xd * z) (quarter p P) ∙ simp (mul_assoc, mul_comm, mul_left_comm) in
    let r : 4 * S ≡ A * qd * 4 * xd = ap (λ (z : ℕ). 4 * z) w ∙ simp (mul_assoc, mul_comm, mul_left_comm) in
    (k.0, le_of_mul-le-mul_right (le_of_mul-le-mul_right (le_trans (le_of_eq (sym l)) (le_trans both (le_of_eq r))) X) (zero-lt-suc 3))

-- THE LAW OF TWO STEPS: a value near A / C, of p digits, divided once by a whole number D, is within one part in 2 ^ (p - 2) of A / (C * D).
-- The two bounds keep the quotient in the normal range and below 2 ^ emax.
pub div_near : (f : Format) (s : Bool) (x : Float) (A C D : ℕ) → 0 < C → 0 < D → D ≤ 2 ^ prec f
    → 2 ^ (prec f - 1) * (2 * C * D) ≤ 2 ^ low f → 2 * A < 2 ^ emax f * C
    → Near (prec f) s x A C → Near (prec f - 2) s (div f x (of_int f (pos D))) A (C * D)
div_near f s nan A C D CP DP L N O h = absurd h
div_near f s (inf t) A C D CP DP L N O h = absurd h
div_near f s (fin t m e) A C D CP DP L N O h = go (eq-zero-or-pos A)
  where
    p : ℕ
    p = prec f

    xn : ℕ
    xn = m * up e

    xd : ℕ
    xd = down e

    X : 0 < xd
    X = down_pos e

    is : div f (fin t m e) (of_int f (pos D)) ≡ round f s xn (xd * D)
    is =
        div_at f (fin t m e) (of_int f (pos D)) s false xn xd D 1 X DP (zero-lt-suc 0) (h.0, refl) (of_int_val f (pos D) L)
        ∙ ap (λ (u : Bool). round f u (xn * 1) (xd * D)) (plain s)
        ∙ ap (λ (z : ℕ). round f s z (xd * D)) (mul-one xn)

    go : (A ≡ 0) ⊎ (0 < A) → Near (p - 2) s (div f (fin t m e) (of_int f (pos D))) A (C * D)
    go (inl z) =
        let v : HasValue (fin t m e) s 0 1 = zero_value p s (fin t m e) C CP (subst (λ (a : ℕ). Near p s (fin t m e) a C) z h) in
        let n : xn ≡ 0 = sym (mul-one xn) ∙ v.1 ∙ zero-mul (down e) in
        let w : HasValue (round f s xn (xd * D)) s 0 1 =
        subst (λ (y : ℕ). HasValue (round f s y (xd * D)) s 0 1) (sym n) (unscaled (round f s 0 (xd * D)) s (xd * D) (mul-pos X DP) (round_zero f s (xd * D) (mul-pos X DP))) in
        subst (λ (q : Float). Near (p - 2) s q A (C * D)) (sym is)
        (subst (λ (a : ℕ). Near (p - 2) s (round f s xn (xd * D)) a (C * D)) (sym z) (exact_near (p - 2) s (round f s xn (xd * D)) 0 (C * D) (mul-pos CP DP)
        (subst (λ (a : ℕ). HasValue (round f s xn (xd * D)) s a (C * D)) (zero-mul (C * D)) (over (round f s xn (xd * D)) s 0 (C * D) w))))
    go (inr a) =
        let low-side : A * xd ≤ 2 * (xn * C) = at_least (xn * C) (A * xd) (2 ^ p) (two_le_pow p (two f)) h.1 in
        let high-side : xn * C ≤ 2 * (A * xd) = at_most (xn * C) (A * xd) (2 ^ p) (two_le_pow p (two f)) h.1 in
        let d1 : xd ≤ 2 * (xn * C) = le_trans (le_of_eq (sym (one-mul xd))) (le_trans (mul-le-mul_right xd a) low-side) in
        let normal : 2 ^ (p - 1) * (xd * D) ≤ xn * 2 ^ low f =
        le_trans (mul-le-mul_left (2 ^ (p - 1)) (mul-le-mul_right D d1))
        (le_trans (le_of_eq (moved (2 ^ (p - 1)))) (mul-le-mul_left xn N)) in
        let under : xn < 2 ^ emax f * xd =
        lt_of_mul-lt-mul_right C (lt_of_le_of_lt high-side (lt_of_le_of_lt (le_of_eq (sym (mul_assoc 2 A xd))) (lt_of_lt_of_le (mul-lt-mul_of_pos_right O X) (le_of_eq (mul_right_comm (2 ^ emax f) C xd))))) in
        let below : xn < 2 ^ emax f * (xd * D) =
        lt_of_lt_of_le under (le_trans (le_of_eq (sym (mul-one (2 ^ emax f * xd)))) (le_trans (mul-le-mul_left (2 ^ emax f * xd) DP) (le_of_eq (mul_assoc (2 ^ emax f) xd D)))) in
        subst (λ (q : Float). Near (p - 2) s q A (C * D)) (sym is)
        (joined p s (round f s xn (xd * D)) A C D xn xd (two f) X h.1 (round_near f s xn (xd * D) (mul-pos X DP) normal below))
      where
        moved : (y : ℕ) → y * (2 * (xn * C) * D) ≡ xn * (y * (2 * C * D))
        moved y = simp (mul_assoc, mul_comm, mul_left_comm)
