-- The sum of two fractions with one denominator, the second not negative, is worked out over the whole numbers and rounded once: it lies within
-- one part in 2 ^ prec of the exact sum, whatever cancels.
use mathlib.Core.Path.{◌≡◌, refl, sym, ap, ◌∙◌, subst}
use mathlib.Core.Logic.{◌⊎◌, inl, inr}
use mathlib.Core.Bool.{Bool, true, false, not, cond, ◌&&◌}
use Prim.Native.Nat.{ℕ, zero, suc, ◌+◌, ◌-◌, ◌*◌, ◌^◌, ◌≤◌, ◌<◌}
use native.Mathlib.Nat.{le_refl, le_trans, le_of_eq, le_of_lt, lt_of_le_of_lt, not-suc-le-zero, eq-zero-or-pos, eq-or-lt_of_le, one-mul, mul_assoc, mul_right_comm, add-mul, mul-le-mul_right, mul-lt-mul_of_pos_right, mul-pos}
use native.Mathlib.Omega.{arith}
use lib.Dec.{T, ltb, ltb→lt, nltb→le}
use borrow.Author.Tests.{lt-ltb, le-ltb}
use lib.IntN.{ℤ, pos, negsuc, neg_ℤ, nat_abs, ◌+ℤ◌}
use lib.Ieee.{Float, nan, inf, fin, Format, prec, emax, low, up, down, round, sum, add}
use lib.Ieee.Fits.{down_pos}
use lib.Ieee.Exact.{HasValue}
use lib.Ieee.Scale.{round_same}
use Rattle.fraction.specs.Near.{Near, negative, NearZ}
use Rattle.fraction.proofs.Round.{sub_scale, round_near}
use Rattle.fraction.proofs.Quotient.{exact_near, round_zero}

-- a whole number from its sign and size
abbrev pub signed : Bool → ℕ → ℤ
signed s n = cond s (neg_ℤ (pos n)) (pos n)

-- ---- -a + b
order : (a b : ℕ) → (a ≤ b) ⊎ (b < a)
order a b = go (ltb b a) (ltb→lt b a) (nltb→le b a)
  where
    go : (t : Bool) → (T t → b < a) → (T (not t) → a ≤ b) → (a ≤ b) ⊎ (b < a)
    go true h k = inr (h tt)
    go false h k = inl (k tt)

minus_le : (a b : ℕ) → a ≤ b → neg_ℤ (pos a) +ℤ pos b ≡ pos (b - a)
minus_le zero b h = ap pos (same b)
  where
    same : (x : ℕ) → 0 + x ≡ x - 0
    same x = omega arith
minus_le (suc a) b h = ap (λ (t : Bool). cond t (negsuc (suc a - suc b)) (pos (b - suc a))) (le-ltb b (suc a) h)

minus_gt : (a b : ℕ) → b < a → neg_ℤ (pos a) +ℤ pos b ≡ negsuc (a - suc b)
minus_gt zero b h = absurd (not-suc-le-zero h)
minus_gt (suc a) b h = ap (λ (t : Bool). cond t (negsuc (suc a - suc b)) (pos (b - suc a))) (lt-ltb b (suc a) h)

left : (a b : ℕ) → b < a → suc (a - suc b) ≡ a - b
left a b h = omega arith

pub size-le : (s : Bool) (a b : ℕ) → nat_abs (signed s a +ℤ pos b) ≤ a + b
size-le false a b = le_refl (a + b)
size-le true a b = go (order a b)
  where
    less : (x y : ℕ) → y - x ≤ x + y
    less x y = omega arith

    more : (x y : ℕ) → x - y ≤ x + y
    more x y = omega arith

    go : (a ≤ b) ⊎ (b < a) → nat_abs (neg_ℤ (pos a) +ℤ pos b) ≤ a + b
    go (inl h) = subst (λ (z : ℤ). nat_abs z ≤ a + b) (sym (minus_le a b h)) (less a b)
    go (inr l) = subst (λ (z : ℤ). nat_abs z ≤ a + b) (sym (minus_gt a b l)) (le_trans (le_of_eq (left a b l)) (more a b))

-- ---- the same, scaled
abbrev Scaled : ℤ → ℤ → ℕ → Type 0
Scaled z w g = (negative z ≡ negative w) × (nat_abs z ≡ nat_abs w * g)

scale : (s : Bool) (a b g : ℕ) → 0 < g → Scaled (signed s (a * g) +ℤ pos (b * g)) (signed s a +ℤ pos b) g
scale false a b g G = (refl, sym (add-mul a b g))
scale true a b g G = go (order a b)
  where
    go : (a ≤ b) ⊎ (b < a) → Scaled (neg_ℤ (pos (a * g)) +ℤ pos (b * g)) (neg_ℤ (pos a) +ℤ pos b) g
    go (inl h) =
        subst (λ (z : ℤ). Scaled z (neg_ℤ (pos a) +ℤ pos b) g) (sym (minus_le (a * g) (b * g) (mul-le-mul_right g h)))
        (subst (λ (w : ℤ). Scaled (pos (b * g - a * g)) w g) (sym (minus_le a b h)) (refl, sub_scale b a g))
    go (inr l) =
        subst (λ (z : ℤ). Scaled z (neg_ℤ (pos a) +ℤ pos b) g) (sym (minus_gt (a * g) (b * g) (mul-lt-mul_of_pos_right l G)))
        (subst (λ (w : ℤ). Scaled (negsuc (a * g - suc (b * g))) w g) (sym (minus_gt a b l))
        (refl, left (a * g) (b * g) (mul-lt-mul_of_pos_right l G) ∙ sub_scale a b g ∙ ap (λ (x : ℕ). x * g) (sym (left a b l))))

-- ---- ±a / c + b / c, as the format adds: worked out, and rounded once
sum_is : (f : Format) (s : Bool) (a b c : ℕ) → sum f s a false b c ≡ round f (negative (signed s a +ℤ pos b)) (nat_abs (signed s a +ℤ pos b)) c
unfolding sum
sum_is f false a b c = refl
sum_is f true a b c = go (order a b)
  where
    S : Bool → Bool → Float
    S x y = cond x (round f false (b - a) c) (round f (true && y) (a - b) c)

    R : ℤ → Float
    R z = round f (negative z) (nat_abs z) c

    level : (x y : ℕ) → x ≡ y → x - y ≡ y - x
    level x y e = omega arith

    go : (a ≤ b) ⊎ (b < a) → S (ltb a b) (ltb b a) ≡ R (neg_ℤ (pos a) +ℤ pos b)
    go (inl h) = least (eq-or-lt_of_le h) ∙ ap R (sym (minus_le a b h))
      where
        least : (a ≡ b) ⊎ (a < b) → S (ltb a b) (ltb b a) ≡ round f false (b - a) c
        least (inl e) =
            ap (λ (t : Bool). S t (ltb b a)) (le-ltb a b (le_of_eq (sym e))) ∙ ap (λ (t : Bool). S false t) (le-ltb b a (le_of_eq e)) ∙ ap (λ (x : ℕ). round f false x c) (level a b e)
        least (inr l) = ap (λ (t : Bool). S t (ltb b a)) (lt-ltb a b l)
    go (inr l) =
        ap (λ (t : Bool). S t (ltb b a)) (le-ltb a b (le_of_lt l)) ∙ ap (λ (t : Bool). S false t) (lt-ltb b a l)
        ∙ ap (λ (x : ℕ). round f true x c) (sym (left a b l)) ∙ ap R (sym (minus_gt a b l))

-- the sum of two values, by any fractions with one denominator that they equal
pub add_at : (f : Format) (x y : Float) (s : Bool) (a b c : ℕ) → 0 < c → HasValue x s a c → HasValue y false b c
    → add f x y ≡ round f (negative (signed s a +ℤ pos b)) (nat_abs (signed s a +ℤ pos b)) c
unfolding add
add_at f nan y s a b c C h k = absurd h
add_at f (inf t) y s a b c C h k = absurd h
add_at f (fin t m e) nan s a b c C h k = absurd k
add_at f (fin t m e) (inf u) s a b c C h k = absurd k
add_at f (fin t m e) (fin u n g) s a b c C h k =
    let E = down e in
    let G = down g in
    let K = E * G in
    let A = m * up e * G in
    let B = n * up g * E in
    let N = signed s A +ℤ pos B in
    let W = signed s a +ℤ pos b in
    let x : A * c ≡ a * K = mul_right_comm (m * up e) G c ∙ ap (λ (z : ℕ). z * G) h.1 ∙ mul_assoc a E G in
    let y : B * c ≡ b * K = mul_right_comm (n * up g) E c ∙ ap (λ (z : ℕ). z * E) k.1 ∙ mul_right_comm b G E ∙ mul_assoc b E G in
    let i : Scaled (signed s (a * K) +ℤ pos (b * K)) N c =
    subst (λ (z : ℕ). Scaled (signed s z +ℤ pos (b * K)) N c) x (subst (λ (z : ℕ). Scaled (signed s (A * c) +ℤ pos z) N c) y (scale s A B c C)) in
    let j : Scaled (signed s (a * K) +ℤ pos (b * K)) W K = scale s a b K (mul-pos (down_pos e) (down_pos g)) in
    ap (λ (v : Bool). sum f v A u B K) h.0
    ∙ ap (λ (v : Bool). sum f s A v B K) k.0
    ∙ sum_is f s A B K
    ∙ ap (λ (v : Bool). round f v (nat_abs N) K) (sym i.0 ∙ j.0)
    ∙ round_same f (negative W) (nat_abs N) K (nat_abs W) c (mul-pos (down_pos e) (down_pos g)) C (sym i.1 ∙ j.1)

-- THE LAW OF A SUM: x is ±a / c, y is b / c. The two bounds keep a sum that is not zero in the normal range, and any below 2 ^ emax.
pub sum_near : (f : Format) (x y : Float) (s : Bool) (a b c : ℕ) → 0 < c → 2 ^ (prec f - 1) * c ≤ 2 ^ low f → a + b < 2 ^ emax f * c
    → HasValue x s a c → HasValue y false b c → NearZ (prec f) (add f x y) (signed s a +ℤ pos b) c
sum_near f x y s a b c C N O h k = subst (λ (z : Float). NearZ (prec f) z t c) (sym (add_at f x y s a b c C h k)) (go (eq-zero-or-pos (nat_abs t)))
  where
    t : ℤ
    t = signed s a +ℤ pos b

    go : (nat_abs t ≡ 0) ⊎ (0 < nat_abs t) → NearZ (prec f) (round f (negative t) (nat_abs t) c) t c
    go (inl z) =
        subst (λ (n : ℕ). Near (prec f) (negative t) (round f (negative t) n c) n c) (sym z)
        (exact_near (prec f) (negative t) (round f (negative t) 0 c) 0 c C (round_zero f (negative t) c C))
    go (inr l) =
        round_near f (negative t) (nat_abs t) c C (le_trans N (le_trans (le_of_eq (sym (one-mul (2 ^ low f)))) (mul-le-mul_right (2 ^ low f) l)))
        (lt_of_le_of_lt (size-le s a b) O)
