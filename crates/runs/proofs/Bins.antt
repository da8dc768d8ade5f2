-- How many bins octets give, as one forward pass with a weight finds it: the pass adds up what the definition multiplies out.
use Prim.Native.Nat.{ℕ, zero, suc, ◌+◌, ◌-◌, ◌*◌, ◌^◌, ◌≤◌, ◌<◌}
use mathlib.Core.Path.{◌≡◌, refl, ap, ◌∙◌}
use mathlib.Core.Logic.{◌⊎◌, inl, inr}
use mathlib.Core.Bool.{true, false, cond}
use mathlib.Core.List.{List, [], ◌∷◌, ◌++◌}
use native.Mathlib.Nat.{mul-le-mul, zero-mul, pow-zero, pow-suc, le-mul_of_pos_right, mul_comm}
use native.Mathlib.Numerals.{add-one}
use native.Mathlib.Omega.{arith}
use lib.ListN.{length, replicate, length-append, length-replicate}
use lib.Dec.{leb, eqb}
use borrow.Author.Tests.{le-leb, lt-leb, leb-true}
use Rattle.octets.proofs.Orders.{by_order}
use Rattle.runs.specs.Run.{base, digit_sum, levels, opens, gives}

-- the definitions' cases
pub digit_sum_nil : (v k : ℕ) → digit_sum v k [] ≡ 0
unfolding digit_sum
digit_sum_nil v k = refl

pub digit_sum_open : (v k o : ℕ) (s : List ℕ) → o ≤ v → digit_sum v k (o ∷ s) ≡ 0
unfolding digit_sum
digit_sum_open v k o s h = simp (le-leb o v h)

pub digit_sum_digit : (v k o : ℕ) (s : List ℕ) → v < o → digit_sum v k (o ∷ s) ≡ (o - v - 1) * base v ^ k + digit_sum v (k + 1) s
unfolding digit_sum
digit_sum_digit v k o s h = simp (lt-leb o v h)

pub levels_nil : (v : ℕ) → levels v [] ≡ []
unfolding levels
levels_nil v = refl

pub levels_open : (v o : ℕ) (s : List ℕ) → o ≤ v → levels v (o ∷ s) ≡ replicate (1 + digit_sum v 0 s) o ++ levels v s
unfolding levels
levels_open v o s h = simp (le-leb o v h)

pub levels_digit : (v o : ℕ) (s : List ℕ) → v < o → levels v (o ∷ s) ≡ levels v s
unfolding levels
levels_digit v o s h = simp (lt-leb o v h)

pub gives_nil : (v n : ℕ) → gives v n [] ≡ eqb 0 n
unfolding gives levels
gives_nil v n = refl

pub gives_level : (v n o : ℕ) (s : List ℕ) → o ≤ v → gives v n (o ∷ s) ≡ eqb (length (levels v (o ∷ s))) n
unfolding gives
gives_level v n o s h = simp (le-leb o v h)

pub gives_above : (v n o : ℕ) (s : List ℕ) → v < o → gives v n (o ∷ s) ≡ false
unfolding gives
gives_above v n o s h = simp (lt-leb o v h)

-- ---- the bins that octets add in a run whose next digit has the weight w
unfoldable pub rest : ℕ → ℕ → List ℕ → ℕ
rest v w [] = 0
rest v w (o ∷ s) = cond (leb o v) (1 + rest v 1 s) ((o - v - 1) * w + rest v (w * base v) s)

pub rest_nil : (v w : ℕ) → rest v w [] ≡ 0
unfolding rest
rest_nil v w = refl

pub rest_open : (v w o : ℕ) (s : List ℕ) → o ≤ v → rest v w (o ∷ s) ≡ 1 + rest v 1 s
unfolding rest
rest_open v w o s h = simp (le-leb o v h)

pub rest_digit : (v w o : ℕ) (s : List ℕ) → v < o → rest v w (o ∷ s) ≡ (o - v - 1) * w + rest v (w * base v) s
unfolding rest
rest_digit v w o s h = simp (lt-leb o v h)

pub rest_right : (v k : ℕ) (s : List ℕ) → digit_sum v k s + length (levels v s) ≡ rest v (base v ^ k) s
rest_right v k [] = omega (arith, digit_sum_nil v k, ap length (levels_nil v), rest_nil v (base v ^ k))
rest_right v k (o ∷ s) =
    by_order o v
    (λ h. omega (arith, digit_sum_open v k o s h, ap length (levels_open v o s h), length-append (replicate (1 + digit_sum v 0 s) o) (levels v s), length-replicate (1 + digit_sum v 0 s) o, rest_open v (base v ^ k) o s h, rest_right v 0 s, ap (λ (w : ℕ). rest v w s) (pow-zero (base v))))
    (λ h. omega (arith, digit_sum_digit v k o s h, ap length (levels_digit v o s h), rest_digit v (base v ^ k) o s h, rest_right v (k + 1) s, ap (λ (w : ℕ). rest v w s) (ap (λ (m : ℕ). base v ^ m) (add-one k) ∙ pow-suc (base v) k)))

-- from where a run opens on, they are the bins
pub rest_bins : (v : ℕ) (s : List ℕ) → opens v s ≡ true → length (levels v s) ≡ rest v 1 s
rest_bins v [] e = omega (arith, ap length (levels_nil v), rest_nil v 1)
rest_bins v (o ∷ s) e =
    omega (arith, rest_right v 0 (o ∷ s), digit_sum_open v 0 o s (leb-true o v e), ap (λ (w : ℕ). rest v w (o ∷ s)) (pow-zero (base v)))

-- ---- the code's weight w, which stays once it is over n, does as well as the true one W
unfoldable pub Weighs : ℕ → ℕ → ℕ → Type 0
Weighs n w W = (w ≡ W) ⊎ ((n < w) × (n < W))

pub weighs_same : (n w : ℕ) → Weighs n w w
unfolding Weighs
weighs_same n w = inl refl

-- a product by a factor that is not 0
times : (d w : ℕ) → 0 < d → w ≤ d * w
times d w h = omega (arith, le-mul_of_pos_right w h, mul_comm w d)

module _ (v n : ℕ) (low : v ≤ 253) where
  grows : (w : ℕ) → w ≤ w * base v
  grows w = le-mul_of_pos_right w (omega arith)

  pub next_weighs : (w W : ℕ) → Weighs n w W → Weighs n (cond (leb w n) (w * base v) w) (W * base v)
  unfolding Weighs
  next_weighs w W (inl e) =
      by_order w n
      (λ h. simp (le-leb w n h) (inl (ap (λ (x : ℕ). x * base v) e)))
      (λ h. simp (lt-leb w n h) (inr (h, omega (arith, grows W))))
  next_weighs w W (inr g) = simp (lt-leb w n g.0) (inr (g.0, omega (arith, grows W)))

  -- what a digit adds is the same by both, or passes n by both
  pub same_digit : (d bins w W : ℕ) → Weighs n w W → ((bins + d * w ≡ bins + d * W) ⊎ ((n < bins + d * w) × (n < bins + d * W)))
  unfolding Weighs
  same_digit d bins w W (inl e) = inl (ap (λ (x : ℕ). bins + d * x) e)
  same_digit zero bins w W (inr g) = inl (simp zero-mul)
  same_digit (suc d) bins w W (inr g) = inr (omega (arith, times (suc d) w (omega arith)), omega (arith, times (suc d) W (omega arith)))

-- what a digit adds fits
pub product : (K d w : ℕ) → d ≤ 255 → w ≤ K → d * w ≤ 255 * K
product K d w h g = mul-le-mul h g
