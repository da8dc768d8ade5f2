-- Octets put piece by piece: pieces put one after the other are their whole, put where the first is; and what is still to come of a list that is put so.
use Prim.Native.Nat.{ℕ, ◌+◌, ◌-◌, ◌≤◌, ◌<◌}
use mathlib.Core.Path.{◌≡◌, sym, ap, subst, ◌∙◌}
use mathlib.Core.List.{List, [], ◌∷◌, ◌++◌, append_assoc}
use native.Mathlib.Numerals.{add-one}
use native.Mathlib.Omega.{arith}
use lib.ListN.{length, take, drop, set, get_or, length-append, length-drop}
use lib.Seq.{length-take-le, take-suc, take_at, take-add, drop-append-add, drop-drop, take-append_seam, drop-append_seam}
use Rattle.lent.specs.Lent.{front, placed}
use Rattle.lent.specs.Put.{Put}
use Rattle.lent.proofs.Lent.{placed_none, placed_more, placed_front, length_placed}

-- one octet more of s
pub one_more : (d s : List ℕ) (at i : ℕ) → i < length s → at + length s ≤ length d → set (placed d at (take i s)) (at + i) (get_or s i 0) ≡ placed d at (take (i + 1) s)
one_more d s at i h room =
    let size : length (take i s) ≡ i = length-take-le i s (omega arith) in
    let here : at + i ≡ at + length (take i s) = omega arith in
    ap (λ (n : ℕ). set (placed d at (take i s)) n (get_or s i 0)) here
    ∙ placed_more d at (take i s) (get_or s i 0) (omega arith)
    ∙ ap (λ (l : List ℕ). placed d at l) (sym (take-suc s i 0 h) ∙ ap (λ (n : ℕ). take n s) (sym (add-one i)))

module _ (d : List ℕ) (at : ℕ) (p q : List ℕ) (room : at + length p ≤ length d) where
  pub placed_append : placed (placed d at p) (at + length p) q ≡ placed d at (p ++ q)
  unfolding placed
  placed_append =
      let size : length (take at d ++ p) ≡ at + length p = simp (length-append, length-take-le at d (omega arith)) in
      let D : List ℕ = drop (at + length p) d in
      let whole : take at d ++ (p ++ D) ≡ (take at d ++ p) ++ D = sym (append_assoc (take at d) p D) in
      ap (λ (l : List ℕ). take (at + length p) l ++ (q ++ drop (at + length p + length q) l)) whole
      ∙ ap (λ (l : List ℕ). l ++ (q ++ drop (at + length p + length q) ((take at d ++ p) ++ D))) (take_at (take at d ++ p) D (at + length p) size)
      ∙ ap (λ (n : ℕ). (take at d ++ p) ++ (q ++ drop (n + length q) ((take at d ++ p) ++ D))) (sym size)
      ∙ ap (λ (l : List ℕ). (take at d ++ p) ++ (q ++ l)) (drop-append-add (take at d ++ p) D (length q) ∙ drop-drop (length q) (at + length p) d)
      ∙ append_assoc (take at d) p (q ++ drop (at + length p + length q) d)
      ∙ ap (λ (l : List ℕ). take at d ++ l) (sym (append_assoc p q (drop (at + length p + length q) d)))
      ∙ ap (λ (n : ℕ). take at d ++ ((p ++ q) ++ drop n d)) next
    where
      next : at + length p + length q ≡ at + length (p ++ q)
      next = omega (arith, length-append p q)

-- one piece, and then another
pub then : {d e f : List ℕ} {at a b : ℕ} {p q : List ℕ} → Put d at p e a → Put e a q f b → Put d at (p ++ q) f b
then {d} {e} {f} {at} {a} {b} {p} {q} x y =
    let room : at + length p ≤ length d = omega (arith, x.past, x.inside) in
    let size : length e ≡ length d = ap length x.there ∙ length_placed d at p room in
    record {
      there = y.there ∙ (λ i. placed (x.there i) (x.past i) q) ∙ placed_append d at p q room;
      past = omega (arith, y.past, x.past, length-append p q);
      inside = omega (arith, y.inside);
    }

-- nothing at all
pub put_none : (d : List ℕ) (at : ℕ) → at ≤ length d → Put d at [] d at
put_none d at h = record { there = placed_none d at; past = omega arith; inside = h }

-- the same octets by another name
pub named : {d e : List ℕ} {at a : ℕ} {p q : List ℕ} → p ≡ q → Put d at p e a → Put d at q e a
named {d} {e} {at} {a} h x = subst (λ (l : List ℕ). Put d at l e a) h x

-- ---- a part of a list grows by what comes next
module _ (W : List ℕ) (at : ℕ) (p R : List ℕ) (next : drop at W ≡ p ++ R) (inside : at ≤ length W) where
  pub next_take : take (at + length p) W ≡ take at W ++ p
  next_take = take-add at (length p) W ∙ ap (λ (l : List ℕ). take at W ++ take (length p) l) next ∙ ap (λ (l : List ℕ). take at W ++ l) (take-append_seam p R)

  pub next_drop : drop (at + length p) W ≡ R
  next_drop = sym (drop-drop (length p) at W) ∙ ap (λ (l : List ℕ). drop (length p) l) next ∙ drop-append_seam p R

  pub next_fits : at + length p ≤ length W
  next_fits = omega (arith, simp (length-drop, length-append) at (ap length next))

-- ---- one element more of W, which stands at a place of d up to j
module _ (d W : List ℕ) (at j o : ℕ) (R : List ℕ) (from : at ≤ j) (next : drop (j - at) W ≡ o ∷ R) (in-W : j - at ≤ length W) (room : at + length W ≤ length d) where
  one_on : (j - at) + 1 ≡ j + 1 - at
  one_on = omega arith

  pub one_fits : j + 1 ≤ at + length W
  one_fits = omega (arith, next_fits W (j - at) (o ∷ []) R next in-W)

  pub one_left : drop (j + 1 - at) W ≡ R
  one_left = ap (λ (n : ℕ). drop n W) (sym one_on) ∙ next_drop W (j - at) (o ∷ []) R next in-W

  pub one_put : set (placed d at (take (j - at) W)) j o ≡ placed d at (take (j + 1 - at) W)
  one_put =
      let P : List ℕ = take (j - at) W in
      let size : length P ≡ j - at = length-take-le (j - at) W in-W in
      let here : j ≡ at + length P = omega arith in
      ap (λ (n : ℕ). set (placed d at P) n o) here
      ∙ placed_more d at P o (omega (arith, one_fits))
      ∙ ap (λ (l : List ℕ). placed d at l) (sym (next_take W (j - at) (o ∷ []) R next in-W) ∙ ap (λ (n : ℕ). take n W) one_on)

-- ---- a run more of W in front
module _ (W d : List ℕ) (at : ℕ) (p R : List ℕ) (next : drop at W ≡ p ++ R) (inside : at ≤ length W) where
  pub run_put : placed (front (take at W) d) at p ≡ front (take (at + length p) W) d
  run_put =
      ap (λ (n : ℕ). placed (front (take at W) d) n p) (sym (length-take-le at W inside))
      ∙ placed_front (take at W) d p
      ∙ ap (λ (l : List ℕ). front l d) (sym (next_take W at p R next inside))

pub length_fronted : (W d : List ℕ) (at : ℕ) → at ≤ length W → length W ≤ length d → length (front (take at W) d) ≡ length d
length_fronted W d at h g = simp (length-append, length-take-le at W h, length-drop) (omega arith)
