-- A table filled place by place: a store at the next place makes one more place right.
use mathlib.Core.Path.{◌≡◌, ◌∙◌}
use mathlib.Core.List.{List}
use Prim.Native.Nat.{ℕ, ◌+◌, ◌<◌}
use native.Mathlib.Omega.{arith}
use borrow.Author.Count.{below_more}
use lib.ListN.{length, get_or, set}
use lib.Seq.{get_or-set_same, get_or-set_other}

pub filled_more : (ks : List ℕ) (f : ℕ → ℕ) (i x : ℕ) → i < length ks → ((k : ℕ) → k < i → get_or ks k 0 ≡ f k) → x ≡ f i
    → (k : ℕ) → k < i + 1 → get_or (set ks i x) k 0 ≡ f k
filled_more ks f i x h all e = below_more (λ (k : ℕ). get_or (set ks i x) k 0 ≡ f k) i (λ k l. get_or-set_other ks i k x 0 (unlike k l) ∙ all k l) (get_or-set_same ks i x 0 h ∙ e)
  where
    unlike : (k : ℕ) → k < i → k ≡ i → ⊥
    unlike k l z = omega arith
