-- The digits of a run whose length is known to stay within the bins of the largest cut: the code's weight gives the true sum.
use Prim.Native.Nat.{ℕ, ◌+◌, ◌-◌, ◌*◌, ◌≤◌, ◌<◌}
use mathlib.Core.Path.{◌≡◌, refl, ap, ◌∙◌}
use mathlib.Core.Logic.{⊎_elim}
use mathlib.Core.Bool.{cond}
use mathlib.Core.List.{List}
use native.Mathlib.Omega.{arith}
use lib.ListN.{length, drop, get_or, drop_of_length-le}
use lib.Dec.{leb}
use Rattle.runs.specs.Run.{base, run_len}
use Rattle.runs.specs.Inner.{digit_count, run_next, known_step}
use borrow.Author.Tests.{eq-eqb, ne_eqb}
use Rattle.lent.proofs.Lent.{drop_here}
use Rattle.runs.proofs.Bins.{Weighs, weighs_same, next_weighs, same_digit}
use Rattle.runs.proofs.Steps.{dsum, dsum_nil, dsum_open, dsum_digit, digit_sum_is, digit_count_nil, digit_count_open, digit_count_digit}
use Rattle.std.specs.Prelude.{None, Some}

-- the digits from i on, weighed truly, make up what is left of the run at a place
pub record Still (v : ℕ) (s : List ℕ) (at i len w : ℕ) : Type 0 where
  pub true_weight : ℕ
  pub weighs : Weighs 2097152 w true_weight
  pub sum : len + dsum v true_weight (drop i s) ≡ run_len v s at
  pub count : i + digit_count v (drop i s) ≡ run_next v s at

pub still_start : (v : ℕ) (s : List ℕ) (at : ℕ) → Still v s at (at + 1) 1 1
still_start v s at = record { true_weight = 1; weighs = weighs_same 2097152 1; sum = omega (arith, digit_sum_is v (drop (at + 1) s)); count = refl }

module _ {v : ℕ} {s : List ℕ} {at i len w : ℕ} (k : Still v s at i len w) where
  pub still_short : len ≤ run_len v s at
  still_short = omega (arith, k.sum)

  -- no digit is left
  ended : dsum v k.true_weight (drop i s) ≡ 0 → digit_count v (drop i s) ≡ 0 → (len ≡ run_len v s at) × (i ≡ run_next v s at)
  ended p q = (omega (arith, k.sum), omega (arith, k.count))

  pub still_end : length s ≤ i → (len ≡ run_len v s at) × (i ≡ run_next v s at)
  still_end h =
      let none = drop_of_length-le s h in
      ended (ap (λ (l : List ℕ). dsum v k.true_weight l) none ∙ dsum_nil v k.true_weight) (ap (λ (l : List ℕ). digit_count v l) none ∙ digit_count_nil v)

  pub still_stop : i < length s → get_or s i 0 ≤ v → (len ≡ run_len v s at) × (i ≡ run_next v s at)
  still_stop h low =
      let here = drop_here s i h in
      ended
      (ap (λ (l : List ℕ). dsum v k.true_weight l) here ∙ dsum_open v k.true_weight (get_or s i 0) (drop (i + 1) s) low)
      (ap (λ (l : List ℕ). digit_count v l) here ∙ digit_count_open v (get_or s i 0) (drop (i + 1) s) low)

  -- a digit more
  module _ (low : v ≤ 253) (short : run_len v s at ≤ 2097152) (h : i < length s) (high : v < get_or s i 0) where
    digit_is : dsum v k.true_weight (drop i s) ≡ (get_or s i 0 - v - 1) * k.true_weight + dsum v (k.true_weight * base v) (drop (i + 1) s)
    digit_is = ap (λ (l : List ℕ). dsum v k.true_weight l) (drop_here s i h) ∙ dsum_digit v k.true_weight (get_or s i 0) (drop (i + 1) s) high

    count_is : digit_count v (drop i s) ≡ 1 + digit_count v (drop (i + 1) s)
    count_is = ap (λ (l : List ℕ). digit_count v l) (drop_here s i h) ∙ digit_count_digit v (get_or s i 0) (drop (i + 1) s) high

    same : len + (get_or s i 0 - v - 1) * w ≡ len + (get_or s i 0 - v - 1) * k.true_weight
    same =
        ⊎_elim
        (λ e. e)
        (λ g. absurd (omega (arith, g.1, k.sum, digit_is)))
        (same_digit v 2097152 low (get_or s i 0 - v - 1) len w k.true_weight k.weighs)

    pub still_more : Still v s at (i + 1) (len + (get_or s i 0 - v - 1) * w) (cond (leb w 2097152) (w * base v) w)
    still_more = record {
      true_weight = k.true_weight * base v;
      weighs = next_weighs v 2097152 low w k.true_weight k.weighs;
      sum = omega (arith, same, digit_is, k.sum);
      count = omega (arith, count_is, k.count);
    }

-- ---- what the step answers there
module _ (v left : ℕ) (s : List ℕ) (at : ℕ) where
  pub known_none : left ≡ 0 → None ≡ known_step v left s at
  unfolding known_step
  known_none h = simp (eq-eqb left 0 h)

  pub known_is : (left ≡ 0 → ⊥) → (len next : ℕ) → (len ≡ run_len v s at) × (next ≡ run_next v s at) → Some (record { level = get_or s at 0; len = len; next = next }) ≡ known_step v left s at
  unfolding known_step
  known_is h len next k = simp (ne_eqb left 0 h) (λ i. Some (record { level = get_or s at 0; len = k.0 i; next = k.1 i }))
