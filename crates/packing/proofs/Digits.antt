-- The writer's digits, runs and greatest level, by their cases.
use Prim.Native.Nat.{ℕ, zero, suc, ◌+◌, ◌/◌, ◌%◌, ◌≤◌, ◌<◌, max}
use mathlib.Core.Path.{◌≡◌, refl, sym, ap, ◌∙◌}
use mathlib.Core.List.{List, [], ◌∷◌, ◌++◌, map}
use native.Mathlib.Nat.{div-lt_self}
use native.Mathlib.Decide.{ℕ_discrete}
use native.Mathlib.Omega.{arith}
use lib.ListN.{length-append, length, drop, get_or, length-map, drop_of_length-le}
use Rattle.std.specs.List.{fold, reduce}
use Rattle.std.specs.Option.{unwrap_or}
use borrow.Author.Tests.{eq-eqb, ne_eqb}
use Rattle.runs.specs.Run.{base}
use Rattle.packing.specs.Write.{greatest, digits_up_to, digits_of, code, on_from, written}
use Rattle.octets.proofs.Orders.{by_order}
use Rattle.lent.proofs.Lent.{drop_here}

-- one of two cases
pub alike {ℓ} : {P : Type ℓ} (a b : ℕ) → (a ≡ b → P) → ((a ≡ b → ⊥) → P) → P
alike {P} a b f g = go (ℕ_discrete a b)
  where
    go : Dec (a ≡ b) → P
    go (yes e) = f e
    go (no e) = g e

pub up_zero : (f b : ℕ) → digits_up_to f b 0 ≡ []
unfolding digits_up_to
up_zero zero b = refl
up_zero (suc f) b = refl

pub up_more : (f b m : ℕ) → 0 < m → digits_up_to (suc f) b m ≡ (m % b) ∷ digits_up_to f b (m / b)
unfolding digits_up_to
up_more f b m h = simp (ne_eqb m 0 (omega arith))

-- a bound that is large enough makes no difference
enough : (f g b m : ℕ) → 2 ≤ b → m ≤ f → m ≤ g → digits_up_to f b m ≡ digits_up_to g b m
enough zero g b m hb hf hg = let z : m ≡ 0 = omega arith in rw z (up_zero zero b ∙ sym (up_zero g b))
enough (suc f) zero b m hb hf hg = let z : m ≡ 0 = omega arith in rw z (up_zero (suc f) b ∙ sym (up_zero zero b))
enough (suc f) (suc g) b m hb hf hg =
    by_order m 0
    (λ h. let z : m ≡ 0 = omega arith in rw z (up_zero (suc f) b ∙ sym (up_zero (suc g) b)))
    (λ h.
    let less : m / b < m = div-lt_self h hb in
    up_more f b m h ∙ ap (λ (l : List ℕ). (m % b) ∷ l) (enough f g b (m / b) hb (omega arith) (omega arith)) ∙ sym (up_more g b m h))

pub digits_zero : (b : ℕ) → digits_of b 0 ≡ []
unfolding digits_of
digits_zero b = up_zero 0 b

pub digits_more : (b m : ℕ) → 2 ≤ b → 0 < m → digits_of b m ≡ (m % b) ∷ digits_of b (m / b)
unfolding digits_of
digits_more b zero hb h = absurd (omega arith)
digits_more b (suc p) hb h =
    let less : suc p / b < suc p = div-lt_self h hb in
    up_more p b (suc p) h ∙ ap (λ (l : List ℕ). (suc p % b) ∷ l) (enough p (suc p / b) b (suc p / b) hb (omega arith) (omega arith))

up_short : (f b m : ℕ) → length (digits_up_to f b m) ≤ f
unfolding digits_up_to
up_short zero b m = omega arith
up_short (suc f) b m =
    by_order m 0
    (λ h. let z : m ≡ 0 = omega arith in rw z (omega arith))
    (λ h. simp (ne_eqb m 0 (omega arith)) (omega (arith, up_short f b (m / b))))

pub digits_short : (b m : ℕ) → length (digits_of b m) ≤ m
unfolding digits_of
digits_short b m = up_short m b m

-- ---- one run
unfoldable pub octets_of : ℕ → List ℕ → List ℕ
octets_of v ds = map (λ (d : ℕ). v + 1 + d) ds

pub code_is : (v x k : ℕ) → code v x k ≡ x ∷ octets_of v (digits_of (base v) k)
unfolding code octets_of
code_is v x k = refl

pub octets_none : (v : ℕ) → octets_of v (digits_of (base v) 0) ≡ []
unfolding octets_of
octets_none v = rw (digits_zero (base v))

pub octets_more : (v m : ℕ) → v ≤ 252 → 0 < m → octets_of v (digits_of (base v) m) ≡ (v + 1 + m % base v) ∷ octets_of v (digits_of (base v) (m / base v))
unfolding octets_of
octets_more v m hv h = rw (digits_more (base v) m (omega arith) h)

pub code_length : (v x k : ℕ) → length (code v x k) ≡ 1 + length (digits_of (base v) k)
unfolding code
code_length v x k = simp length-map (omega arith)

pub code_short : (v x k : ℕ) → length (code v x k) ≤ k + 1
code_short v x k = omega (arith, code_length v x k, digits_short (base v) k)

-- ---- a row
pub greatest_cons : (x : ℕ) (s : List ℕ) → greatest (x ∷ s) ≡ max x (greatest s)
unfolding greatest
greatest_cons x s = refl

pub greatest_nil : greatest [] ≡ 0
unfolding greatest
greatest_nil = refl

greatest_fold : (m : ℕ) (s : List ℕ) → fold max m s ≡ max m (greatest s)
greatest_fold m [] = omega (arith, greatest_nil)
greatest_fold m (x ∷ s) = omega (arith, greatest_fold (max m x) s, greatest_cons x s)

-- the greatest of some levels, or 0
pub greatest_picked : (s : List ℕ) → unwrap_or (reduce max s) 0 ≡ greatest s
greatest_picked [] = sym greatest_nil
greatest_picked (x ∷ s) = greatest_fold x s ∙ sym (greatest_cons x s)

pub on_from_nil : (v x k : ℕ) → on_from v x k [] ≡ code v x k
unfolding on_from
on_from_nil v x k = refl

module _ (v x k y : ℕ) (s : List ℕ) where
  pub on_from_same : y ≡ x → on_from v x k (y ∷ s) ≡ on_from v x (k + 1) s
  unfolding on_from
  on_from_same e = simp (eq-eqb y x e)

  pub on_from_other : (y ≡ x → ⊥) → on_from v x k (y ∷ s) ≡ code v x k ++ on_from v y 0 s
  unfolding on_from
  on_from_other e = simp (ne_eqb y x e)

-- the same along a row, by the place i of the next level
module _ (v x k : ℕ) (row : List ℕ) (i : ℕ) where
  pub on_same : i < length row → get_or row i 0 ≡ x → on_from v x k (drop i row) ≡ on_from v x (k + 1) (drop (i + 1) row)
  on_same h e = ap (λ (s : List ℕ). on_from v x k s) (drop_here row i h) ∙ on_from_same v x k (get_or row i 0) (drop (i + 1) row) e

  pub on_other : i < length row → (get_or row i 0 ≡ x → ⊥) → on_from v x k (drop i row) ≡ code v x k ++ on_from v (get_or row i 0) 0 (drop (i + 1) row)
  on_other h e = ap (λ (s : List ℕ). on_from v x k s) (drop_here row i h) ∙ on_from_other v x k (get_or row i 0) (drop (i + 1) row) e

  pub on_end : length row ≤ i → on_from v x k (drop i row) ≡ code v x k
  on_end h = ap (λ (s : List ℕ). on_from v x k s) (drop_of_length-le row h) ∙ on_from_nil v x k

pub written_cons : (v x : ℕ) (s : List ℕ) → written v (x ∷ s) ≡ on_from v x 0 s
unfolding written
written_cons v x s = refl

pub written_nil : (v : ℕ) → written v [] ≡ []
unfolding written
written_nil v = refl

pub written_empty : (v : ℕ) (row : List ℕ) → length row ≡ 0 → written v row ≡ []
written_empty v [] h = written_nil v
written_empty v (x ∷ row) h = absurd (omega arith)

-- ---- the octets are no more than the levels
on_from_short : (v : ℕ) (s : List ℕ) (x k : ℕ) → length (on_from v x k s) ≤ k + 1 + length s
on_from_short v [] x k = omega (arith, ap length (on_from_nil v x k), code_short v x k)
on_from_short v (y ∷ s) x k =
    alike y x
    (λ e. omega (arith, ap length (on_from_same v x k y s e), on_from_short v s x (k + 1)))
    (λ e. omega (arith, ap length (on_from_other v x k y s e), length-append (code v x k) (on_from v y 0 s), code_short v x k, on_from_short v s y 0))

pub written_short : (v : ℕ) (s : List ℕ) → length (written v s) ≤ length s
written_short v [] = omega (arith, ap length (written_nil v))
written_short v (x ∷ s) = omega (arith, ap length (written_cons v x s), on_from_short v s x 0)
