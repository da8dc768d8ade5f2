-- The marks and values of a ray, run by run: what a run's rows make of them, and what stands at each place afterwards.
use mathlib.Core.Path.{◌≡◌, refl, ◌∙◌, ap, sym}
use mathlib.Core.List.{List, ◌++◌}
use Prim.Native.Nat.{ℕ, ◌+◌, ◌-◌, ◌≤◌, ◌<◌}
use lib.ListN.{length, get_or, replicate}
use native.Mathlib.Omega.{arith}
use Rattle.lent.specs.Lent.{placed, updated}
use Rattle.lent.proofs.Lent.{placed_none}
use Rattle.lent.proofs.Updated.{run_updated, run_kept, updated_at}
use lib.IntN.{ℤ, pos}
use Rattle.values.specs.Ray.{mark_at, held_at, marks_of, values_of}
use Rattle.values.specs.Reading.{reading_of, mark_of, held_of}
use Rattle.values.specs.Inner.{number_of, numbered_to}
use Rattle.values.specs.declared.Product.{Product}
use Rattle.values.specs.declared.Reading.{Reading}
use Rattle.values.specs.declared.Reading.TheVariants.{Missing, Number}

pub numbered_within : (r : Reading) (lo hi : ℕ) → lo ≤ hi → (lo ≤ numbered_to r lo hi) × (numbered_to r lo hi ≤ hi)
unfolding numbered_to
numbered_within Missing lo hi h = (omega arith, h)
numbered_within (Number z) lo hi h = (h, omega arith)

-- what a reading's rows make of marks and values, where its level comes to the levels P
pub marks_run : (p : Product) (x : ℕ) (P bs : List ℕ) (k : ℕ) → length P + k ≤ length bs
    → placed (updated (mark_at p) P bs) (length P) (replicate k (mark_of (reading_of p x))) ≡ updated (mark_at p) (P ++ replicate k x) bs
marks_run p x P bs k h = run_updated (mark_at p) x (mark_of (reading_of p x)) (λ b. refl) k P bs h

held_run : (f : ℕ → ℤ → ℤ) (x : ℕ) (r : Reading) → ((z : ℤ) → f x z ≡ held_of r z) → (P : List ℕ) (xs : List ℤ) (k : ℕ) → length P + k ≤ length xs
    → placed (updated f P xs) (length P) (replicate (numbered_to r (length P) (length P + k) - length P) (number_of r)) ≡ updated f (P ++ replicate k x) xs
unfolding held_of numbered_to number_of
held_run f x Missing same P xs k h =
    let n : ℕ = length P in
    let none : n - n ≡ 0 = omega arith in
    ap (λ (j : ℕ). placed (updated f P xs) n (replicate j (pos 0))) none ∙ sym (placed_none (updated f P xs) n) ∙ run_kept f x same k P xs
held_run f x (Number z) same P xs k h =
    let all : length P + k - length P ≡ k = omega arith in
    ap (λ (j : ℕ). placed (updated f P xs) (length P) (replicate j z)) all ∙ run_updated f x z same k P xs h

pub values_run : (p : Product) (x : ℕ) (P : List ℕ) (xs : List ℤ) (k : ℕ) → length P + k ≤ length xs
    → placed (updated (held_at p) P xs) (length P) (replicate (numbered_to (reading_of p x) (length P) (length P + k) - length P) (number_of (reading_of p x))) ≡ updated (held_at p) (P ++ replicate k x) xs
values_run p x P xs k h = held_run (held_at p) x (reading_of p x) (λ z. refl) P xs k h

pub mark_at_lem : (p : Product) (ls bs : List ℕ) (i : ℕ) → i < length ls → i < length bs → get_or (marks_of p ls bs) i 0 ≡ mark_of (reading_of p (get_or ls i 0))
unfolding marks_of
mark_at_lem p ls bs i h k = updated_at (mark_at p) ls bs 0 i h k

pub value_at : (p : Product) (ls : List ℕ) (xs : List ℤ) (i : ℕ) → i < length ls → i < length xs
    → get_or (values_of p ls xs) i (pos 0) ≡ held_of (reading_of p (get_or ls i 0)) (get_or xs i (pos 0))
unfolding values_of
value_at p ls xs i h k = updated_at (held_at p) ls xs (pos 0) i h k
