-- `round` in the normal range: the result is within one part in 2 ^ prec of the fraction. In either format, with either sign.
use mathlib.Core.Path.{◌≡◌, sym, ap, ◌∙◌, subst}
use mathlib.Core.Logic.{◌⊎◌, inl, inr}
use mathlib.Core.Bool.{Bool, not}
use Prim.Native.Nat.{ℕ, zero, suc, ◌+◌, ◌-◌, ◌*◌, ◌/◌, ◌%◌, ◌^◌, ◌≤◌, ◌<◌, compare, Ordering}
use native.Mathlib.Nat.{le_trans, le_of_eq, le_of_lt, lt_of_lt_of_le, lt_of_le_of_lt, one-mul, mul_comm, mul_assoc, mul_right_comm, add-mul, mul-le-mul_right, le_of_mul-le-mul_right, le-div_iff_mul-le, div-lt_iff_lt-mul, div-div-eq-div-mul, div-add-mod', mod-lt, mul-pos, pow-suc, mul-sub}
use native.Mathlib.Omega.{arith}
use lib.Dec.{T, is_le, compare_is_eq, eqb, leb→le, nleb→lt, eqb→eq, eqb_refl}
use lib.Arith.{lt_of_le-ne}
use lib.Pow.{pow-add, pow_pos, pow-lt}
use lib.Ieee.{Float, nan, inf, fin, Format, prec, emax, low, up, down, size, nearest, units, round}
use lib.Ieee.Digits.{size-le, size_reaches}
use lib.Ieee.Fits.{nearest-le, kept-lt, round_is, two, two-le_pos}
use lib.Ieee.Exact.{HasValue, units_val}
use lib.Ieee.Nearest.{closest}
use lib.Ieee.Order.{drop, kept}
use lib.Ieee.Scale.{grid, overflow, normal_of_fraction}
use Rattle.fraction.specs.Near.{dist, Near}

-- ---- |a - b|, scaled
pub sub_scale : (a b c : ℕ) → a * c - b * c ≡ (a - b) * c
sub_scale a b c = ap (λ (x : ℕ). x - b * c) (mul_comm a c) ∙ ap (λ (x : ℕ). c * a - x) (mul_comm b c) ∙ sym (mul-sub c a b) ∙ mul_comm c (a - b)

pub dist_scale : (a b c : ℕ) → dist (a * c) (b * c) ≡ dist a b * c
dist_scale a b c = ap (λ (x : ℕ). x + (b * c - a * c)) (sub_scale a b c) ∙ ap (λ (x : ℕ). (a - b) * c + x) (sub_scale b a c) ∙ sym (add-mul (a - b) (b - a) c)

-- ---- a fraction n / u rounded to a whole number is off by half a unit at most
abbrev Cmp : Ordering → ℕ → ℕ → Type 0
Cmp Ordering.lt a b = a < b
Cmp Ordering.eq a b = a ≡ b
Cmp Ordering.gt a b = b < a

cmp : (a b : ℕ) → Cmp (compare a b) a b
cmp a b = go (compare a b) (leb→le a b) (nleb→lt a b) (eqb→eq a b) (λ (e : a ≡ b). subst (λ (x : ℕ). T (eqb a x)) e (eqb_refl a))
  where
    go : (o : Ordering) → (T (is_le o) → a ≤ b) → (T (not (is_le o)) → b < a) → (T (compare_is_eq o) → a ≡ b) → (a ≡ b → T (compare_is_eq o)) → Cmp o a b
    go Ordering.lt h k e n = lt_of_le-ne (h tt) n
    go Ordering.eq h k e n = e tt
    go Ordering.gt h k e n = k tt

-- P is q units, and n is r more
keep : (P r u n : ℕ) → P + r ≡ n → r * 2 ≤ u → dist P n * 2 ≤ u
keep P r u n e h = omega arith

raise : (P r u n : ℕ) → P + r ≡ n → r < u → u ≤ r * 2 → dist (P + u) n * 2 ≤ u
raise P r u n e l h = omega arith

one_more : (q u : ℕ) → suc q * u ≡ q * u + u
one_more q u = ap (λ (x : ℕ). x * u) (split q) ∙ add-mul q 1 u ∙ ap (λ (x : ℕ). q * u + x) (one-mul u)
  where
    split : (x : ℕ) → suc x ≡ x + 1
    split x = omega arith

half : (o : Ordering) (q r u n : ℕ) → Cmp o (r * 2) u → q * u + r ≡ n → r < u → dist (nearest q o * u) n * 2 ≤ u
half Ordering.lt q r u n h e l = keep (q * u) r u n e (le_of_lt h)
half Ordering.gt q r u n h e l = subst (λ (x : ℕ). dist x n * 2 ≤ u) (sym (one_more q u)) (raise (q * u) r u n e l (le_of_lt h))
half Ordering.eq q r u n h e l = go (either (q % 2) (mod-lt q (pow_pos 1)))
  where
    either : (t : ℕ) → t < 2 → (q + t ≡ q) ⊎ (q + t ≡ suc q)
    either zero k = inl (same q)
      where
        same : (x : ℕ) → x + 0 ≡ x
        same x = omega arith
    either (suc t) k = inr (next q t k)
      where
        next : (x t : ℕ) → suc t < 2 → x + suc t ≡ suc x
        next x t k = omega arith

    go : (q + q % 2 ≡ q) ⊎ (q + q % 2 ≡ suc q) → dist ((q + q % 2) * u) n * 2 ≤ u
    go (inl x) = subst (λ (z : ℕ). dist (z * u) n * 2 ≤ u) (sym x) (keep (q * u) r u n e (le_of_eq h))
    go (inr x) = subst (λ (z : ℕ). dist (z * u) n * 2 ≤ u) (sym x) (subst (λ (z : ℕ). dist z n * 2 ≤ u) (sym (one_more q u)) (raise (q * u) r u n e l (le_of_eq (sym h))))

pub closest_near : (n u : ℕ) → 0 < u → dist (closest n u * u) n * 2 ≤ u
closest_near n u U = half (compare (n % u * 2) u) (n / u) (n % u) u n (cmp (n % u * 2) u) (div-add-mod' n u) (mod-lt n U)

-- ---- n / c, a fraction in units of the format's smallest value, with all its p digits in use
reached : (z p : ℕ) → 0 < p → p ≤ z → z - p + (p - 1) < z
reached z p P h = omega arith

halves : (p : ℕ) → 0 < p → 2 ^ p ≡ 2 * 2 ^ (p - 1)
halves p P = ap (λ (x : ℕ). 2 ^ x) (again p P) ∙ pow-suc 2 (p - 1) ∙ mul_comm (2 ^ (p - 1)) 2
  where
    again : (x : ℕ) → 0 < x → x ≡ suc (x - 1)
    again x h = omega arith

pub kept_near : (p n c : ℕ) → 0 < p → 0 < c → p ≤ size (n / c) → dist (kept p n c * 2 ^ drop p n c * c) n * 2 ^ p ≤ n
kept_near p n c P C N =
    let k = drop p n c in
    let u = c * 2 ^ k in
    let D = dist (kept p n c * 2 ^ k * c) n in
    let e : kept p n c * u ≡ kept p n c * 2 ^ k * c = ap (λ (x : ℕ). kept p n c * x) (mul_comm c (2 ^ k)) ∙ sym (mul_assoc (kept p n c) (2 ^ k) c) in
    let near : D * 2 ≤ u = subst (λ (x : ℕ). dist x n * 2 ≤ u) e (closest_near n u (mul-pos C (pow_pos k))) in
    let big : u * 2 ^ (p - 1) ≤ n =
    le_trans (le_of_eq (ap (λ (x : ℕ). x * 2 ^ (p - 1)) (mul_comm c (2 ^ k)) ∙ mul_right_comm (2 ^ k) c (2 ^ (p - 1)) ∙ ap (λ (x : ℕ). x * c) (sym (pow-add 2 k (p - 1)))))
    ((le-div_iff_mul-le C).0 (size_reaches (n / c) (k + (p - 1)) (reached (size (n / c)) p P N))) in
    le_trans (le_of_eq (ap (λ (x : ℕ). D * x) (halves p P) ∙ sym (mul_assoc D 2 (2 ^ (p - 1))))) (le_trans (mul-le-mul_right (2 ^ (p - 1)) near) big)

-- ---- no overflow: the fraction is below 2 ^ emax
kept_le : (p n c : ℕ) → kept p n c ≤ 2 ^ p
kept_le p n c =
    let k = drop p n c in
    let u = c * 2 ^ k in
    le_trans (nearest-le (n / u) (compare (n % u * 2) u)) (subst (λ (x : ℕ). x < 2 ^ p) (div-div-eq-div-mul n c (2 ^ k)) (kept-lt p (n / c)))

room : (f : Format) (z : ℕ) → z ≤ emax f + low f → prec f + (z - prec f) < low f + suc (emax f)
room lib.Ieee.binary32 z h = omega arith
room lib.Ieee.binary64 z h = omega arith

pub grid_below : (f : Format) (a c : ℕ) → 0 < c → a < 2 ^ emax f * c → grid f a c < overflow f
grid_below f a c C h =
    let n = a * 2 ^ low f in
    let p = prec f in
    let k = drop p n c in
    let w : n / c < 2 ^ (emax f + low f) =
    (div-lt_iff_lt-mul C).1 (lt_of_lt_of_le (scaled a (2 ^ emax f * c) (low f) h) (le_of_eq (mul_right_comm (2 ^ emax f) c (2 ^ low f) ∙ ap (λ (x : ℕ). x * c) (sym (pow-add 2 (emax f) (low f)))))) in
    lt_of_le_of_lt (mul-le-mul_right (2 ^ k) (kept_le p n c))
    (lt_of_le_of_lt (le_of_eq (sym (pow-add 2 p k))) (pow-lt (room f (size (n / c)) (size-le (n / c) (emax f + low f) w))))
  where
    scaled : (x y l : ℕ) → x < y → x * 2 ^ l < y * 2 ^ l
    scaled x y l h = native.Mathlib.Nat.mul-lt-mul_of_pos_right h (pow_pos l)

-- ---- from the units to the float
-- x is g / l, and g / l is near a / d
pub transfer : (p : ℕ) (s : Bool) (x : Float) (g l a d : ℕ) → 0 < l → HasValue x s g l → dist (g * d) (a * l) * 2 ^ p ≤ a * l → Near p s x a d
transfer p s nan g l a d L v h = v
transfer p s (inf t) g l a d L v h = v
transfer p s (fin t m e) g l a d L v h =
    let E = down e in
    let x : g * d * E ≡ m * up e * d * l = mul_right_comm g d E ∙ ap (λ (z : ℕ). z * d) (sym v.1) ∙ mul_right_comm (m * up e) l d in
    let y : a * l * E ≡ a * E * l = mul_right_comm a l E in
    let D : dist (g * d) (a * l) * E ≡ dist (m * up e * d) (a * E) * l =
    sym (dist_scale (g * d) (a * l) E) ∙ ap (λ (z : ℕ). dist z (a * l * E)) x ∙ ap (λ (z : ℕ). dist (m * up e * d * l) z) y ∙ dist_scale (m * up e * d) (a * E) l in (
      v.0,
      le_of_mul-le-mul_right
          (le_trans (le_of_eq (mul_right_comm (dist (m * up e * d) (a * E)) (2 ^ p) l ∙ ap (λ (z : ℕ). z * 2 ^ p) (sym D) ∙ mul_right_comm (dist (g * d) (a * l)) E (2 ^ p)))
          (le_trans (mul-le-mul_right E h) (le_of_eq y)))
          L,
    )

-- THE LAW: a / d in the normal range and below 2 ^ emax
pub round_near : (f : Format) (s : Bool) (a d : ℕ) → 0 < d → 2 ^ (prec f - 1) * d ≤ a * 2 ^ low f → a < 2 ^ emax f * d → Near (prec f) s (round f s a d) a d
round_near f s a d D N O =
    let p = prec f in
    let n = a * 2 ^ low f in
    transfer p s (round f s a d) (grid f a d) (2 ^ low f) a d (pow_pos (low f))
    (subst (λ (z : Float). HasValue z s (grid f a d) (2 ^ low f)) (sym (round_is f s a d)) (units_val f s (kept p n d) (drop p n d) (grid_below f a d D O)))
    (kept_near p n d (two-le_pos p (two f)) D (normal_of_fraction f a d D N))
