-- A list put at a place of another or at its front, grown element by element or run by run.
use Prim.Native.Nat.{ℕ, suc, ◌+◌, ◌-◌, ◌≤◌, ◌<◌}
use mathlib.Core.Path.{◌≡◌, sym, ap, ◌∙◌}
use mathlib.Core.List.{List, [], ◌∷◌, ◌++◌, append_assoc}
use native.Mathlib.Nat.{add-zero}
use native.Mathlib.Numerals.{add-one}
use native.Mathlib.Omega.{arith}
use lib.ListN.{length, replicate, take, drop, set, get_or, take-append-drop, length-append, length-replicate, length-drop, replicate-append-replicate}
use lib.Seq.{take_all, take-set-le, drop-set-lt, set_at, length-take-le, drop-cons, take_at, drop_at, take-add, drop-drop, drop-append-add, take-append_seam}
use borrow.Rule.Slice.PartMut.{put_mid, post_of, Post-is}
use Rattle.octets.proofs.Orders.{by_order}
use Rattle.lent.specs.Lent.{front, placed, between}

pub placed_none : {A : Type 0} (d : List A) (at : ℕ) → d ≡ placed d at []
unfolding placed
placed_none d at = sym (simp add-zero (take-append-drop at d))

-- what `&mut d[at..e]` was when given back stands in d at its place
pub part_placed : {A : Type 0} (d : List A) (at e : ℕ) (q p : List A) → q ≡ p → at + length p ≡ e → put_mid at (e - at) d q ≡ placed d at p
unfolding placed
part_placed {A} d at e q p same size =
    let rest : post_of at (e - at) d ≡ drop (at + length p) d = Post-is at e d (omega arith) ∙ ap (λ (n : ℕ). drop n d) (sym size) in
    λ i. take at d ++ (same i ++ rest i)

module _ {A : Type 0} (d : List A) (at : ℕ) (P : List A) where
  pub length_placed : at + length P ≤ length d → length (placed d at P) ≡ length d
  unfolding placed
  length_placed h = simp (length-append, length-take-le at d (omega arith), length-drop) (omega arith)

  pub placed_more : (o : A) → at + length P < length d → set (placed d at P) (at + length P) o ≡ placed d at (P ++ (o ∷ []))
  unfolding placed
  placed_more o h =
      let j : ℕ = at + length P in
      let size : length (P ++ (o ∷ [])) ≡ length P + 1 = length-append P (o ∷ []) in
      let next : suc j ≡ at + length (P ++ (o ∷ [])) = omega arith in
      ap (λ (l : List A). set (take at d ++ (P ++ l)) j o) (drop-cons d j o h)
      ∙ ap (λ (l : List A). set l j o) (sym (append_assoc (take at d) P (get_or d j o ∷ drop (suc j) d)))
      ∙ set_at (take at d ++ P) (get_or d j o) (drop (suc j) d) o j (simp (length-append, length-take-le at d (omega arith)) (omega arith))
      ∙ append_assoc (take at d) P (o ∷ drop (suc j) d)
      ∙ ap (λ (l : List A). take at d ++ l) (sym (append_assoc P (o ∷ []) (drop (suc j) d)))
      ∙ ap (λ (n : ℕ). take at d ++ ((P ++ (o ∷ [])) ++ drop n d)) next

-- a store where p is to stand makes no difference to it
pub placed_set : {A : Type 0} (d : List A) (at : ℕ) (x : A) (P : List A) → 0 < length P → placed (set d at x) at P ≡ placed d at P
unfolding placed
placed_set d at x P h = simp (take-set-le at d at x (omega arith), drop-set-lt (at + length P) d at x (omega arith))

pub first_put : {A : Type 0} (d : List A) (at : ℕ) (x : A) → at < length d → set d at x ≡ placed (set d at x) at (x ∷ [])
first_put {A} d at x h =
    let start : at ≡ at + length {A = A} [] = omega arith in
    ap (λ (l : List A). set l at x) (placed_none d at)
    ∙ ap (λ (n : ℕ). set (placed d at []) n x) start
    ∙ placed_more d at [] x (omega arith)
    ∙ sym (placed_set d at x (x ∷ []) (omega arith))

-- what is placed where the front ends makes the front longer
pub placed_front : {A : Type 0} (P d p : List A) → placed (front P d) (length P) p ≡ front (P ++ p) d
unfolding placed
placed_front {A} P d p =
    let T : List A = drop (length P) d in
    ap (λ (l : List A). l ++ (p ++ drop (length P + length p) (P ++ T))) (take-append_seam P T)
    ∙ ap (λ (l : List A). P ++ (p ++ l)) (drop-append-add P T (length p) ∙ drop-drop (length p) (length P) d)
    ∙ sym (append_assoc P p (drop (length P + length p) d))
    ∙ ap (λ (n : ℕ). (P ++ p) ++ drop n d) (sym (length-append P p))

-- ---- one value from lo up to i, a store a turn
module _ {A : Type 0} (d : List A) (lo i : ℕ) (x : A) (le : lo ≤ i) where
  pub row_length : i ≤ length d → length (placed d lo (replicate (i - lo) x)) ≡ length d
  row_length fits = length_placed d lo (replicate (i - lo) x) (omega (arith, length-replicate (i - lo) x))

  pub row_more : i < length d → set (placed d lo (replicate (i - lo) x)) i x ≡ placed d lo (replicate (i + 1 - lo) x)
  row_more fits =
      let size : length (replicate (i - lo) x) ≡ i - lo = length-replicate (i - lo) x in
      let here : i ≡ lo + length (replicate (i - lo) x) = omega arith in
      let more : i - lo + 1 ≡ i + 1 - lo = omega arith in
      ap (λ (n : ℕ). set (placed d lo (replicate (i - lo) x)) n x) here
      ∙ placed_more d lo (replicate (i - lo) x) x (omega arith)
      ∙ ap (λ (l : List A). placed d lo l) (replicate-append-replicate (i - lo) 1 x ∙ ap (λ (n : ℕ). replicate n x) more)

pub row_none : {A : Type 0} (d : List A) (lo hi : ℕ) (x : A) → hi ≤ lo → d ≡ placed d lo (replicate (hi - lo) x)
row_none d lo hi x h =
    let none : 0 ≡ hi - lo = omega arith in
    placed_none d lo ∙ ap (λ (n : ℕ). placed d lo (replicate n x)) none

pub row_one : {A : Type 0} (d : List A) (lo : ℕ) (x : A) → lo < length d → set d lo x ≡ placed (set d lo x) lo (replicate (lo + 1 - lo) x)
row_one d lo x h =
    let one : 1 ≡ lo + 1 - lo = omega arith in
    first_put d lo x h ∙ ap (λ (n : ℕ). placed (set d lo x) lo (replicate n x)) one

pub row_all : {A : Type 0} (d : List A) (lo hi : ℕ) (x : A) → lo < hi → placed (set d lo x) lo (replicate (hi - lo) x) ≡ placed d lo (replicate (hi - lo) x)
row_all d lo hi x h = placed_set d lo x (replicate (hi - lo) x) (omega (arith, length-replicate (hi - lo) x))

-- ---- a list from a place on
pub drop_here : (l : List ℕ) (i : ℕ) → i < length l → drop i l ≡ get_or l i 0 ∷ drop (i + 1) l
drop_here l i h = drop-cons l i 0 h ∙ ap (λ (k : ℕ). get_or l i 0 ∷ drop k l) (sym (add-one i))

pub to_end : {A : Type 0} (l : List A) (at : ℕ) → take (length l - at) (drop at l) ≡ drop at l
to_end l at = take_all (length l - at) (drop at l) (omega (arith, length-drop at l))

-- ---- a part of a row of levels
pub length_between : (L : List ℕ) (a e : ℕ) → e ≤ length L → length (between a e L) ≡ e - a
length_between L a e h = length-take-le (e - a) (drop a L) (simp length-drop (omega arith))

pub length_front : (P d : List ℕ) → length P ≤ length d → length (front P d) ≡ length d
length_front P d h = simp (length-append, length-drop) (omega arith)

pub front_none : (l d : List ℕ) (e : ℕ) → e ≡ 0 → d ≡ front (take e l) d
front_none l d e h = rw h

-- a part of a run
pub within : (j k m x : ℕ) (R : List ℕ) → j + k ≤ m → take k (drop j (replicate m x ++ R)) ≡ replicate k x
within j k m x R h =
    let r : ℕ = m - (j + k) in
    let cut : m ≡ j + (k + r) = omega arith in
    let split : replicate m x ++ R ≡ replicate j x ++ (replicate k x ++ (replicate r x ++ R)) =
    ap (λ (n : ℕ). replicate n x ++ R) cut
    ∙ ap (λ (l : List ℕ). l ++ R) (sym (replicate-append-replicate j (k + r) x))
    ∙ append_assoc (replicate j x) (replicate (k + r) x) R
    ∙ ap (λ (l : List ℕ). replicate j x ++ (l ++ R)) (sym (replicate-append-replicate k r x))
    ∙ ap (λ (l : List ℕ). replicate j x ++ l) (append_assoc (replicate k x) (replicate r x) R) in
    ap (λ (l : List ℕ). take k (drop j l)) split
    ∙ ap (λ (l : List ℕ). take k l) (drop_at (replicate j x) (replicate k x ++ (replicate r x ++ R)) j (length-replicate j x))
    ∙ take_at (replicate k x) (replicate r x ++ R) k (length-replicate k x)

-- the bins from a up to those read grow by what a run of m adds, cut off at `to`
module _ (L R d : List ℕ) (a bins to m x : ℕ) (le : bins ≤ to) (run : drop bins L ≡ replicate m x ++ R) (inside : to ≤ bins + m) where
  pub between_more : between a to L ≡ between a bins L ++ replicate ((to - a) - (bins - a)) x
  between_more =
      by_order to a
      (λ h.
      let z : to - a ≡ 0 = omega arith in
      let y : bins - a ≡ 0 = omega arith in
      rw (z, y))
      (λ h.
      let lo : ℕ = bins - a in
      let k : ℕ = to - a - lo in
      let j : ℕ = a - bins in
      let sum : to - a ≡ lo + k = omega arith in
      let places : a + lo ≡ bins + j = omega arith in
      let rest : drop lo (drop a L) ≡ drop j (replicate m x ++ R) =
      drop-drop lo a L ∙ ap (λ (n : ℕ). drop n L) places ∙ sym (drop-drop j bins L) ∙ ap (λ (l : List ℕ). drop j l) run in
      ap (λ (n : ℕ). take n (drop a L)) sum ∙ take-add lo k (drop a L) ∙ ap (λ (l : List ℕ). take lo (drop a L) ++ l) (ap (λ (l : List ℕ). take k l) rest ∙ within j k m x R (omega arith)))

  pub painted : bins ≤ length L → placed (front (between a bins L) d) (bins - a) (replicate ((to - a) - (bins - a)) x) ≡ front (between a to L) d
  painted have =
      let size : length (between a bins L) ≡ bins - a = length_between L a bins have in
      ap (λ (n : ℕ). placed (front (between a bins L) d) n (replicate ((to - a) - (bins - a)) x)) (sym size)
      ∙ placed_front (between a bins L) d (replicate ((to - a) - (bins - a)) x)
      ∙ ap (λ (l : List ℕ). front l d) (sym between_more)
