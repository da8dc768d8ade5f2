-- The list by starts: from a start on it is the stretch up to the next start, and then the list from there on. For any kinds, tests and entries.
use Prim.Native.Nat.{ℕ, zero, suc, ◌+◌, ◌-◌, ◌*◌, ◌%◌, ◌≤◌, ◌<◌}
use mathlib.Core.Path.{◌≡◌, refl, ap, sym, subst, ◌∙◌}
use mathlib.Core.Logic.{◌⊎◌, inl, inr}
use mathlib.Core.Bool.{Bool, true, false, cond, true≢false, and-true, and-false}
use mathlib.Core.List.{List, [], ◌∷◌}
use native.Mathlib.Nat.{zero-add, add-zero, suc-add, zero-mod, mod-add-mod, mod-eq_of_lt}
use native.Mathlib.Decide.{dec_lt}
use native.Mathlib.Omega.{arith}
use lib.ListN.{length, set}
use lib.Seq.{sets}
use lib.Dec.{leb, ltb, eqb}
use borrow.Author.Tests.{lt-ltb, le-ltb, le-leb, lt-leb, eq-eqb, ne_eqb, eqb-true, eqb-false}
use Rattle.stretches.specs.Stretch.{Entry, per_entry, begins_after, starts, unbroken, list_from, from_place, words_of}
use Rattle.stretches.specs.Inner.{must_list}

-- ---- the test for a start

pub fresh_ray : (nb p k j : ℕ) → p % nb ≡ 0 → begins_after nb p k j ≡ true
unfolding begins_after
fresh_ray nb p k j h = rw (eq-eqb (p % nb) 0 h)

pub fresh_same : (nb p k j : ℕ) → (p % nb ≡ 0 → ⊥) → k ≡ j → begins_after nb p k j ≡ false
unfolding begins_after
fresh_same nb p k j h e = rw (ne_eqb (p % nb) 0 h, eq-eqb k j e)

pub fresh_other : (nb p k j : ℕ) → (p % nb ≡ 0 → ⊥) → (k ≡ j → ⊥) → begins_after nb p k j ≡ true
unfolding begins_after
fresh_other nb p k j h e = rw (ne_eqb (p % nb) 0 h, ne_eqb k j e)

pub fresh_false : (nb p k j : ℕ) → begins_after nb p k j ≡ false → (p % nb ≡ 0 → ⊥) × (k ≡ j)
unfolding begins_after
fresh_false nb p k j h = go (eqb (p % nb) 0) refl (eqb k j) refl
  where
    go : (a : Bool) → eqb (p % nb) 0 ≡ a → (b : Bool) → eqb k j ≡ b → (p % nb ≡ 0 → ⊥) × (k ≡ j)
    go true e b u = absurd (true≢false (rw e at h))
    go false e true u = (eqb-false (p % nb) 0 e, eqb-true k j u)
    go false e false u = absurd (true≢false (rw (e, u) at h))

pub fresh_true : (nb p k j : ℕ) → begins_after nb p k j ≡ true → (p % nb ≡ 0) ⊎ (k ≡ j → ⊥)
unfolding begins_after
fresh_true nb p k j h = go (eqb (p % nb) 0) refl (eqb k j) refl
  where
    go : (a : Bool) → eqb (p % nb) 0 ≡ a → (b : Bool) → eqb k j ≡ b → (p % nb ≡ 0) ⊎ (k ≡ j → ⊥)
    go true e b u = inl (eqb-true (p % nb) 0 e)
    go false e true u = absurd (true≢false (rw (e, u) at (sym h)))
    go false e false u = inr (eqb-false k j u)

-- ---- whether a stretch is to list

pub hand_early : (q s p : ℕ) → s < q → must_list q s p ≡ false
unfolding must_list
hand_early q s p h = rw (lt-leb q s h)

pub hand_none : (q s p : ℕ) → p ≤ s → must_list q s p ≡ false
unfolding must_list
hand_none q s p h = rw (le-ltb s p h) (and-false (leb q s))

-- ---- words and stores

pub length_words : (a : List Entry) → length (words_of a) ≡ per_entry * length a
unfolding words_of
length_words [] = refl
length_words (e ∷ a) = omega (arith, length_words a)

-- words tell the entries
pub words_same : (a b : List Entry) → words_of a ≡ words_of b → a ≡ b
unfolding words_of
words_same [] [] h = refl
words_same [] (f ∷ b) h = let z : ◌≡◌ {A = ℕ} 0 1 = cc in absurd (omega arith)
words_same (e ∷ a) [] h = let z : ◌≡◌ {A = ℕ} 0 1 = cc in absurd (omega arith)
words_same (e ∷ a) (f ∷ b) h =
    let r : e.ray ≡ f.ray = cc in
    let i : e.first ≡ f.first = cc in
    let l : e.len ≡ f.len = cc in
    let k : e.kind ≡ f.kind = cc in
    let w : words_of a ≡ words_of b = cc in
    λ j. record { ray = r j; first = i j; len = l j; kind = k j } ∷ words_same a b w j

pub four_stores : (l : List ℕ) (i a b c d : ℕ) → set (set (set (set l i a) (i + 1) b) (i + 2) c) (i + 3) d ≡ sets l i (a ∷ b ∷ c ∷ d ∷ [])
four_stores l i a b c d =
    let e1 : i + 1 ≡ suc i = omega arith in
    let e2 : i + 2 ≡ suc (suc i) = omega arith in
    let e3 : i + 3 ≡ suc (suc (suc i)) = omega arith in
    rw (e1, e2, e3)

-- ---- places of a ray

pub mod_in_ray : (nb p i : ℕ) → p % nb + i < nb → (p + i) % nb ≡ p % nb + i
mod_in_ray nb p i h = sym (mod-add-mod p nb i) ∙ mod-eq_of_lt h

-- where the n places from p on are in one ray and of one kind, only the first can begin a stretch
pub quiet : (K : ℕ → ℕ) (nb p n k : ℕ) → p % nb + n ≤ nb → ((x : ℕ) → p ≤ x → x < p + n → K x ≡ k) → (x : ℕ) → p < x → x < p + n → starts K nb x ≡ false
quiet K nb p n k h same x l u =
    let i : ℕ = x - p in
    let xi : p + i ≡ x = omega arith in
    let md : (p + i) % nb ≡ p % nb + i = mod_in_ray nb p i (omega arith) in
    let md' : x % nb ≡ p % nb + i = ap (λ (y : ℕ). y % nb) (sym xi) ∙ md in
    fresh_same nb x (K x) (K (x - 1)) (λ z. omega arith) (same x (omega arith) u ∙ sym (same (x - 1) (omega arith) (omega arith)))

pub starts_zero : (K : ℕ → ℕ) (nb : ℕ) → starts K nb 0 ≡ true
starts_zero K nb = fresh_ray nb 0 (K 0) (K (0 - 1)) (zero-mod nb)

-- ---- `unbroken`: as far as no place begins a stretch, and no further

module _ (S : ℕ → Bool) where
  -- none of the n places from p on begins a stretch
  abbrev pub Quiet : ℕ → ℕ → Type 0
  Quiet p n = (x : ℕ) → p ≤ x → x < p + n → S x ≡ false

  skip_more : (n p m : ℕ) → Quiet p n → unbroken S p (n + m) ≡ n + unbroken S (p + n) m
  unfolding unbroken
  skip_more zero p m q = rw (zero-add m, add-zero p, zero-add (unbroken S p m))
  skip_more (suc n) p m q =
      let ih : unbroken S (suc p) (n + m) ≡ n + unbroken S (suc p + n) m = skip_more n (suc p) m (λ x l h. q x (omega arith) (omega arith)) in
      let e : unbroken S (suc p + n) m ≡ unbroken S (p + suc n) m = ap (λ (x : ℕ). unbroken S x m) (omega arith) in
      rw (suc-add n m, q p (omega arith) (omega arith)) (omega arith)

  more_start : (p m : ℕ) → S p ≡ true → unbroken S p m ≡ 0
  unfolding unbroken
  more_start p zero h = refl
  more_start p (suc m) h = rw h

  pub more_quiet : (m p : ℕ) → Quiet p (unbroken S p m)
  unfolding unbroken
  more_quiet zero p x l u = absurd (omega arith)
  more_quiet (suc m) p x l u = go (S p) refl u (more_quiet m (suc p) x)
    where
      go : (b : Bool) → S p ≡ b → x < p + cond b 0 (suc (unbroken S (suc p) m)) → (suc p ≤ x → x < suc p + unbroken S (suc p) m → S x ≡ false) → S x ≡ false
      go true e w ih = absurd (omega arith)
      go false e w ih = pick (dec_lt p x)
        where
          pick : Dec (p < x) → S x ≡ false
          pick (yes a) = ih a (omega arith)
          pick (no a) = let i : p ≡ x = omega arith in subst (λ (y : ℕ). S y ≡ false) i e

  pub more_stop : (m p : ℕ) → unbroken S p m < m → S (p + unbroken S p m) ≡ true
  unfolding unbroken
  more_stop zero p l = absurd (omega arith)
  more_stop (suc m) p l = go (S p) refl l (more_stop m (suc p))
    where
      go : (b : Bool) → S p ≡ b → cond b 0 (suc (unbroken S (suc p) m)) < suc m → (unbroken S (suc p) m < m → S (suc p + unbroken S (suc p) m) ≡ true)
          → S (p + cond b 0 (suc (unbroken S (suc p) m))) ≡ true
      go true e w ih = rw add-zero e
      go false e w ih = let i : suc p + unbroken S (suc p) m ≡ p + suc (unbroken S (suc p) m) = omega arith in subst (λ (y : ℕ). S y ≡ true) i (ih (omega arith))

-- ---- the list, for any test S and any entries E that stand at their places

module _ (S : ℕ → Bool) (E : ℕ → ℕ → Entry) (nb : ℕ) (placed : (p n : ℕ) → (E p n).ray * nb + (E p n).first ≡ p) where
  skip_list : (n p m : ℕ) → Quiet S p n → list_from S E p (n + m) ≡ list_from S E (p + n) m
  unfolding list_from
  skip_list zero p m q = rw (zero-add, add-zero)
  skip_list (suc n) p m q =
      let ih : list_from S E (suc p) (n + m) ≡ list_from S E (suc p + n) m = skip_list n (suc p) m (λ x l h. q x (omega arith) (omega arith)) in
      rw (suc-add, q p (omega arith) (omega arith)) (ih ∙ ap (λ (x : ℕ). list_from S E x m) (omega arith))

  past_cons : (q p n : ℕ) (es : List Entry) → 0 < n → from_place nb q (E p n ∷ es) ≡ cond (must_list q p (p + n)) (E p n ∷ from_place nb q es) (from_place nb q es)
  unfolding from_place must_list
  past_cons q p n es h = rw (placed p n, lt-ltb p (p + n) (omega arith), and-true (leb q p))

  list_start : (p m : ℕ) → S p ≡ true → list_from S E p (suc m) ≡ E p (suc (unbroken S (suc p) m)) ∷ list_from S E (suc p) m
  unfolding list_from
  list_start p m h = rw h

  -- the stretch from a start s goes up to the next start e
  pub close_list : (q s e m : ℕ) → s ≤ e → S s ≡ true → Quiet S (suc s) (e - suc s) → S e ≡ true
      → from_place nb q (list_from S E s (e - s + m)) ≡ cond (must_list q s e) (E s (e - s) ∷ from_place nb q (list_from S E e m)) (from_place nb q (list_from S E e m))
  close_list q s e m l start still next = go (dec_lt s e)
    where
      go : Dec (s < e) → from_place nb q (list_from S E s (e - s + m)) ≡ cond (must_list q s e) (E s (e - s) ∷ from_place nb q (list_from S E e m)) (from_place nb q (list_from S E e m))
      go (yes a) =
          let n : ℕ = e - suc s in
          let size : e - s + m ≡ suc (n + m) = omega arith in
          let to : suc s + n ≡ e = omega arith in
          let none : unbroken S (suc s) (n + m) ≡ n = skip_more S n (suc s) m still ∙ ap (λ (x : ℕ). n + unbroken S x m) to ∙ ap (λ (x : ℕ). n + x) (more_start S e m next) ∙ add-zero n in
          let on : list_from S E (suc s) (n + m) ≡ list_from S E e m = skip_list n (suc s) m still ∙ ap (λ (x : ℕ). list_from S E x m) to in
          let len : suc n ≡ e - s = omega arith in
          let end : s + suc n ≡ e = omega arith in
          ap (λ (x : ℕ). from_place nb q (list_from S E s x)) size
          ∙ ap (from_place nb q) (list_start s (n + m) start ∙ λ i. E s (suc (none i)) ∷ on i)
          ∙ past_cons q s (suc n) (list_from S E e m) (omega arith)
          ∙ (λ i. cond (must_list q s (end i)) (E s (len i) ∷ from_place nb q (list_from S E e m)) (from_place nb q (list_from S E e m)))
      go (no a) =
          let same : s ≡ e = omega arith in
          let size : e - s + m ≡ m = omega arith in
          rw (hand_none q s e (omega arith)) (λ i. from_place nb q (list_from S E (same i) (size i)))

-- in a ray, whose bins begin at place o
pub hand_in_ray : (q o a b : ℕ) → q ≤ o + a → ltb a b ≡ must_list q (o + a) (o + b)
unfolding must_list
hand_in_ray q o a b h = rw (le-leb q (o + a) h) (go (dec_lt a b))
  where
    go : Dec (a < b) → ltb a b ≡ ltb (o + a) (o + b)
    go (yes l) = lt-ltb a b l ∙ sym (lt-ltb (o + a) (o + b) (omega arith))
    go (no l) = le-ltb a b (omega arith) ∙ sym (le-ltb (o + a) (o + b) (omega arith))
