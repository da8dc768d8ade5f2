-- Laws of `updated`, for any type of entry: a run's bins, stored as one row, make so many more places right; what stands at each place afterwards.
use mathlib.Core.Path.{◌≡◌, refl, ◌∙◌, ap, sym}
use mathlib.Core.List.{List, [], ◌∷◌, ◌++◌}
use Prim.Native.Nat.{ℕ, zero, suc, ◌+◌, ◌≤◌, ◌<◌}
use native.Mathlib.Nat.{le_of_suc-le-suc, not-suc-le-zero}
use native.Mathlib.Omega.{arith}
use lib.ListN.{length, get_or, take, drop, replicate, length-replicate}
use Rattle.lent.specs.Lent.{placed, updated}

pub updated_length : {A : Type 0} (f : ℕ → A → A) (ls : List ℕ) (bs : List A) → length (updated f ls bs) ≡ length bs
unfolding updated
updated_length f [] bs = refl
updated_length f (l ∷ ls) [] = refl
updated_length f (l ∷ ls) (b ∷ bs) = ap suc (updated_length f ls bs)

pub updated_none : {A : Type 0} (f : ℕ → A → A) (ls : List ℕ) (bs : List A) → updated f (take 0 ls) bs ≡ bs
unfolding updated
updated_none f [] bs = refl
updated_none f (l ∷ ls) bs = refl

-- a place that has not been reached holds what it held
pub updated_past : {A : Type 0} (f : ℕ → A → A) (ls : List ℕ) (bs : List A) (d : A) (i : ℕ) → get_or (updated f (take i ls) bs) i d ≡ get_or bs i d
unfolding updated
updated_past f [] bs d zero = refl
updated_past f [] bs d (suc i) = refl
updated_past f (l ∷ ls) bs d zero = refl
updated_past f (l ∷ ls) [] d (suc i) = refl
updated_past f (l ∷ ls) (b ∷ bs) d (suc i) = updated_past f ls bs d i

-- ---- a run of k bins of level x after the levels P
module _ {A : Type 0} (f : ℕ → A → A) (x : ℕ) where
  -- the run alone, where the level makes the same m of every entry
  row_updated : (m : A) → ((b : A) → f x b ≡ m) → (k : ℕ) (bs : List A) → k ≤ length bs → replicate k m ++ drop k bs ≡ updated f (replicate k x) bs
  unfolding updated
  row_updated m same zero bs h = refl
  row_updated m same (suc k) [] h = absurd (not-suc-le-zero h)
  row_updated m same (suc k) (b ∷ bs) h = (λ i. sym (same b) i ∷ row_updated m same k bs (le_of_suc-le-suc h) i)

  -- and where it leaves every entry
  kept_updated : ((b : A) → f x b ≡ b) → (k : ℕ) (bs : List A) → bs ≡ updated f (replicate k x) bs
  unfolding updated
  kept_updated same zero bs = refl
  kept_updated same (suc k) [] = refl
  kept_updated same (suc k) (b ∷ bs) = (λ i. sym (same b) i ∷ kept_updated same k bs i)

  pub run_updated : (m : A) → ((b : A) → f x b ≡ m) → (k : ℕ) (P : List ℕ) (bs : List A) → length P + k ≤ length bs
      → placed (updated f P bs) (length P) (replicate k m) ≡ updated f (P ++ replicate k x) bs
  unfolding updated placed
  run_updated m same k [] bs h =
      let size : 0 + length (replicate k m) ≡ k = omega (arith, length-replicate k m) in
      ap (λ (n : ℕ). replicate k m ++ drop n bs) size ∙ row_updated m same k bs (omega arith)
  run_updated m same k (p ∷ P) [] h = absurd (omega arith)
  run_updated m same k (p ∷ P) (b ∷ bs) h =
      let next : suc (length P) + length (replicate k m) ≡ suc (length P + length (replicate k m)) = omega arith in
      ap (λ (n : ℕ). f p b ∷ (take (length P) (updated f P bs) ++ (replicate k m ++ drop {A = A} n (f p b ∷ updated f P bs)))) next
      ∙ ap (λ (l : List A). f p b ∷ l) (run_updated m same k P bs (omega arith))

  pub run_kept : ((b : A) → f x b ≡ b) → (k : ℕ) (P : List ℕ) (bs : List A) → updated f P bs ≡ updated f (P ++ replicate k x) bs
  unfolding updated
  run_kept same k [] bs = kept_updated same k bs
  run_kept same k (p ∷ P) [] = refl
  run_kept same k (p ∷ P) (b ∷ bs) = ap (λ (l : List A). f p b ∷ l) (run_kept same k P bs)

-- what stands at each place afterwards
pub updated_at : {A : Type 0} (f : ℕ → A → A) (ls : List ℕ) (bs : List A) (d : A) (i : ℕ) → i < length ls → i < length bs
    → get_or (updated f ls bs) i d ≡ f (get_or ls i 0) (get_or bs i d)
unfolding updated
updated_at f [] bs d i h k = absurd (not-suc-le-zero h)
updated_at f (l ∷ ls) [] d i h k = absurd (not-suc-le-zero k)
updated_at f (l ∷ ls) (b ∷ bs) d zero h k = refl
updated_at f (l ∷ ls) (b ∷ bs) d (suc i) h k = updated_at f ls bs d i (le_of_suc-le-suc h) (le_of_suc-le-suc k)
