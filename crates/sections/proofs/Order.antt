-- Which section follows which: the test `follows` says one of eight pairs.
use Prim.Native.Nat.{ℕ, ◌≤◌, ◌<◌}
use mathlib.Core.Path.{◌≡◌, refl}
use mathlib.Core.Bool.{Bool, true, false, ◌&&◌, ◌||◌}
use native.Mathlib.Omega.{arith}
use borrow.Author.Tests.{eqb-true}
use lib.Dec.{eqb}
use Rattle.rules.proofs.Chains.{and_true_both}
use Rattle.sections.specs.Checks.{follows}

pub data Follow (p n : ℕ) : Type 0 where
  f01 : p ≡ 0 → n ≡ 1 → Follow p n
  f13 : p ≡ 1 → n ≡ 3 → Follow p n
  f34 : p ≡ 3 → n ≡ 4 → Follow p n
  f45 : p ≡ 4 → n ≡ 5 → Follow p n
  f56 : p ≡ 5 → n ≡ 6 → Follow p n
  f67 : p ≡ 6 → n ≡ 7 → Follow p n
  f73 : p ≡ 7 → n ≡ 3 → Follow p n
  f74 : p ≡ 7 → n ≡ 4 → Follow p n

two : (p i n j : ℕ) → (eqb p i && eqb n j) ≡ true → (p ≡ i) × (n ≡ j)
two p i n j h =
    let e = and_true_both (eqb p i) (eqb n j) h in
    (eqb-true p i e.0, eqb-true n j e.1)

pub either_of : {X : Type 0} (a b : Bool) → (a || b) ≡ true → (a ≡ true → X) → (b ≡ true → X) → X
either_of true b h k1 k2 = k1 refl
either_of false b h k1 k2 = k2 h

-- the first of seven tests that holds
seven : {X : Type 0} (a b c d e f g : Bool) → (a || b || c || d || e || f || g) ≡ true
    → (a ≡ true → X) → (b ≡ true → X) → (c ≡ true → X) → (d ≡ true → X) → (e ≡ true → X) → (f ≡ true → X) → (g ≡ true → X) → X
seven true b c d e f g h k1 k2 k3 k4 k5 k6 k7 = k1 refl
seven false true c d e f g h k1 k2 k3 k4 k5 k6 k7 = k2 refl
seven false false true d e f g h k1 k2 k3 k4 k5 k6 k7 = k3 refl
seven false false false true e f g h k1 k2 k3 k4 k5 k6 k7 = k4 refl
seven false false false false true f g h k1 k2 k3 k4 k5 k6 k7 = k5 refl
seven false false false false false true g h k1 k2 k3 k4 k5 k6 k7 = k6 refl
seven false false false false false false g h k1 k2 k3 k4 k5 k6 k7 = k7 h

pub follow : (p n : ℕ) → follows p n ≡ true → Follow p n
unfolding follows
follow p n h =
    seven (eqb p 0 && eqb n 1) (eqb p 1 && eqb n 3) (eqb p 3 && eqb n 4) (eqb p 4 && eqb n 5) (eqb p 5 && eqb n 6) (eqb p 6 && eqb n 7) (eqb p 7 && (eqb n 3 || eqb n 4)) h
    (λ e. let q = two p 0 n 1 e in f01 q.0 q.1)
    (λ e. let q = two p 1 n 3 e in f13 q.0 q.1)
    (λ e. let q = two p 3 n 4 e in f34 q.0 q.1)
    (λ e. let q = two p 4 n 5 e in f45 q.0 q.1)
    (λ e. let q = two p 5 n 6 e in f56 q.0 q.1)
    (λ e. let q = two p 6 n 7 e in f67 q.0 q.1)
    (λ e.
    let q = and_true_both (eqb p 7) (eqb n 3 || eqb n 4) e in
    either_of (eqb n 3) (eqb n 4) q.1 (λ a. f73 (eqb-true p 7 q.0) (eqb-true n 3 a)) (λ b. f74 (eqb-true p 7 q.0) (eqb-true n 4 b)))

-- a section of a greater number than n comes past a section n, where n is 3 to 7
pub past_number : (n p m : ℕ) → 3 ≤ n → n ≤ 7 → follows p m ≡ true → n < m → n ≤ p
past_number n p m some few h k = go (follow p m h)
  where
    go : Follow p m → n ≤ p
    go (f01 a b) = omega arith
    go (f13 a b) = omega arith
    go (f34 a b) = omega arith
    go (f45 a b) = omega arith
    go (f56 a b) = omega arith
    go (f67 a b) = omega arith
    go (f73 a b) = omega arith
    go (f74 a b) = omega arith

-- a 7 comes after a 6
pub before_seven : (p n : ℕ) → follows p n ≡ true → n ≡ 7 → p ≡ 6
before_seven p n h k = go (follow p n h)
  where
    go : Follow p n → p ≡ 6
    go (f01 a b) = absurd (omega arith)
    go (f13 a b) = absurd (omega arith)
    go (f34 a b) = absurd (omega arith)
    go (f45 a b) = absurd (omega arith)
    go (f56 a b) = absurd (omega arith)
    go (f67 a b) = a
    go (f73 a b) = absurd (omega arith)
    go (f74 a b) = absurd (omega arith)
