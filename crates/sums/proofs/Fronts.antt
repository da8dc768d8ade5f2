-- Octets cut where a run opens: what the two parts give adds up, and a pass over all of them goes on in the second where the first ends.
use Prim.Native.Nat.{ℕ, zero, suc, ◌+◌, ◌-◌, ◌*◌, ◌≤◌, ◌<◌}
use mathlib.Core.Path.{◌≡◌, refl, sym, ap, ◌∙◌}
use mathlib.Core.Bool.{true, cond}
use mathlib.Core.List.{List, [], ◌∷◌}
use native.Mathlib.Omega.{arith}
use lib.ListN.{length, take, drop, get_or}
use lib.Dec.{leb}
use borrow.Author.Tests.{le-leb, lt-leb}
use Rattle.octets.proofs.Orders.{by_order}
use Rattle.lent.proofs.Lent.{drop_here}
use Rattle.runs.specs.Run.{base, levels, opens}
use Rattle.runs.proofs.Bins.{rest, rest_nil, rest_open, rest_digit, rest_bins}
use Rattle.runs.proofs.Reach.{reach, reach_full, reach_open, reach_digit, opens_take}
use Rattle.sums.specs.Inner.{Fronts}

-- the weight behind octets, before which it is w
unfoldable pub weight_past : ℕ → ℕ → List ℕ → ℕ
weight_past v w [] = w
weight_past v w (o ∷ s) = cond (leb o v) (weight_past v 1 s) (weight_past v (w * base v) s)

past_level : (v w o : ℕ) (s : List ℕ) → o ≤ v → weight_past v w (o ∷ s) ≡ weight_past v 1 s
unfolding weight_past
past_level v w o s h = simp (le-leb o v h)

past_digit : (v w o : ℕ) (s : List ℕ) → v < o → weight_past v w (o ∷ s) ≡ weight_past v (w * base v) s
unfolding weight_past
past_digit v w o s h = simp (lt-leb o v h)

past_nil : (v w : ℕ) → weight_past v w [] ≡ w
unfolding weight_past
past_nil v w = refl

pub rest_cut : (v w : ℕ) (s : List ℕ) (e : ℕ) → rest v w s ≡ rest v w (take e s) + rest v (weight_past v w (take e s)) (drop e s)
rest_cut v w s zero = omega (arith, rest_nil v w, ap (λ (x : ℕ). rest v x s) (past_nil v w))
rest_cut v w [] (suc e) = omega (arith, rest_nil v w, rest_nil v (weight_past v w []))
rest_cut v w (o ∷ s) (suc e) =
    by_order o v
    (λ h. omega (arith, rest_open v w o s h, rest_open v w o (take e s) h, rest_cut v 1 s e, ap (λ (x : ℕ). rest v x (drop e s)) (past_level v w o (take e s) h)))
    (λ h. omega (arith, rest_digit v w o s h, rest_digit v w o (take e s) h, rest_cut v (w * base v) s e, ap (λ (x : ℕ). rest v x (drop e s)) (past_digit v w o (take e s) h)))

reach_cut : (v w left : ℕ) (s : List ℕ) (e : ℕ) → e ≤ length s → rest v w (take e s) ≤ left
    → reach v w left s ≡ e + reach v (weight_past v w (take e s)) (left - rest v w (take e s)) (drop e s)
reach_cut v w left s zero inside few =
    let all : left ≡ left - rest v w [] = omega (arith, rest_nil v w) in
    (λ i. reach v (sym (past_nil v w) i) (all i) s) ∙ omega arith
reach_cut v w left [] (suc e) inside few = absurd (omega arith)
reach_cut v w left (o ∷ s) (suc e) inside few =
    by_order o v
    (λ h.
    let t = rest_open v w o (take e s) h in
    let less : left - 1 - rest v 1 (take e s) ≡ left - rest v w (o ∷ take e s) = omega (arith, t) in
    reach_open v w left o s h (omega (arith, t))
    ∙ ap (λ (k : ℕ). suc k) (reach_cut v 1 (left - 1) s e (omega arith) (omega (arith, t)))
    ∙ (λ i. suc (e + reach v (sym (past_level v w o (take e s) h) i) (less i) (drop e s)))
    ∙ omega arith)
    (λ h.
    let d : ℕ = (o - v - 1) * w in
    let t = rest_digit v w o (take e s) h in
    let less : left - d - rest v (w * base v) (take e s) ≡ left - rest v w (o ∷ take e s) = omega (arith, t) in
    reach_digit v w left o s h (omega (arith, t))
    ∙ ap (λ (k : ℕ). suc k) (reach_cut v (w * base v) (left - d) s e (omega arith) (omega (arith, t)))
    ∙ (λ i. suc (e + reach v (sym (past_digit v w o (take e s) h) i) (less i) (drop e s)))
    ∙ omega arith)

-- where a run opens no weight counts
module _ (v : ℕ) (s : List ℕ) (e : ℕ) (inside : e < length s) (level : get_or s e 0 ≤ v) where
  pub rest_any : (w : ℕ) → rest v w (drop e s) ≡ rest v 1 (drop e s)
  rest_any w = rw (drop_here s e inside) (rest_open v w (get_or s e 0) (drop (e + 1) s) level ∙ sym (rest_open v 1 (get_or s e 0) (drop (e + 1) s) level))

  reach_any : (w left : ℕ) → reach v w left (drop e s) ≡ reach v 1 left (drop e s)
  reach_any w left =
      rw (drop_here s e inside)
      (by_order 1 left
      (λ h. reach_open v w left (get_or s e 0) (drop (e + 1) s) level h ∙ sym (reach_open v 1 left (get_or s e 0) (drop (e + 1) s) level h))
      (λ h. reach_full v w left (get_or s e 0) (drop (e + 1) s) level h ∙ sym (reach_full v 1 left (get_or s e 0) (drop (e + 1) s) level h)))

  pub opens_there : opens v (drop e s) ≡ true
  opens_there = rw (drop_here s e inside) (le-leb (get_or s e 0) v level)

-- octets are there and open with a level
pub opens_first : (v : ℕ) (s : List ℕ) → get_or s 0 0 ≤ v → opens v s ≡ true
opens_first v [] h = refl
opens_first v (o ∷ s) h = le-leb o v h

-- what the front gives, by the pass
pub front_rest : (v : ℕ) (s : List ℕ) (e : ℕ) → get_or s 0 0 ≤ v → length (levels v (take e s)) ≡ rest v 1 (take e s)
front_rest v s e h = rest_bins v (take e s) (opens_take v s e (opens_first v s h))

module _ (v : ℕ) (s : List ℕ) (e bins : ℕ) (front : Fronts v s e bins) where
  pub rest_behind : rest v 1 s ≡ bins + rest v 1 (drop e s)
  rest_behind =
      omega (arith, rest_cut v 1 s e, front_rest v s e front.0, front.3, rest_any v s e front.1 front.2 (weight_past v 1 (take e s)))

  pub reach_behind : (left : ℕ) → bins ≤ left → reach v 1 left s ≡ e + reach v 1 (left - bins) (drop e s)
  reach_behind left few =
      let is : rest v 1 (take e s) ≡ bins = omega (arith, front_rest v s e front.0, front.3) in
      reach_cut v 1 left s e (omega arith) (omega arith)
      ∙ ap (λ (k : ℕ). e + k) (reach_any v s e front.1 front.2 (weight_past v 1 (take e s)) _ ∙ ap (λ (b : ℕ). reach v 1 (left - b) (drop e s)) is)
