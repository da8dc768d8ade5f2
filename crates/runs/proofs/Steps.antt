-- One run: its digits read forward with a weight, up to what is wanted, and what the run step then answers.
use Prim.Native.Nat.{ℕ, ◌+◌, ◌-◌, ◌*◌, ◌^◌, ◌≤◌, ◌<◌}
use mathlib.Core.Path.{◌≡◌, refl, sym, ap, ◌∙◌}
use mathlib.Core.Logic.{⊎_elim}
use mathlib.Core.Bool.{cond}
use mathlib.Core.List.{List, [], ◌∷◌}
use native.Mathlib.Nat.{pow-zero, pow-suc}
use native.Mathlib.Numerals.{add-one}
use native.Mathlib.Omega.{arith}
use lib.ListN.{length, drop, get_or, drop_of_length-le}
use lib.Dec.{leb, ltb}
use borrow.Author.Tests.{le-leb, lt-leb, lt-ltb, le-ltb, eq-eqb, ne_eqb}
use Rattle.runs.specs.Run.{base, digit_sum, run_len}
use Rattle.runs.specs.Inner.{digit_count, run_next, cut_step}
use Rattle.octets.proofs.Orders.{by_order}
use Rattle.lent.proofs.Lent.{drop_here}
use Rattle.runs.proofs.Bins.{Weighs, weighs_same, next_weighs, same_digit}
use Rattle.runs.specs.declared.Run.{Run}
use Rattle.std.specs.Prelude.{None, Option, Some}

-- the sum of the digits at the front, the first of them with the weight w
unfoldable pub dsum : ℕ → ℕ → List ℕ → ℕ
dsum v w [] = 0
dsum v w (o ∷ s) = cond (leb o v) 0 ((o - v - 1) * w + dsum v (w * base v) s)

pub dsum_nil : (v w : ℕ) → dsum v w [] ≡ 0
unfolding dsum
dsum_nil v w = refl

pub dsum_open : (v w o : ℕ) (s : List ℕ) → o ≤ v → dsum v w (o ∷ s) ≡ 0
unfolding dsum
dsum_open v w o s h = simp (le-leb o v h)

pub dsum_digit : (v w o : ℕ) (s : List ℕ) → v < o → dsum v w (o ∷ s) ≡ (o - v - 1) * w + dsum v (w * base v) s
unfolding dsum
dsum_digit v w o s h = simp (lt-leb o v h)

pub dsum_right : (v k : ℕ) (s : List ℕ) → digit_sum v k s ≡ dsum v (base v ^ k) s
unfolding digit_sum dsum
dsum_right v k [] = refl
dsum_right v k (o ∷ s) = ap (λ (x : ℕ). cond (leb o v) 0 ((o - v - 1) * base v ^ k + x)) (dsum_right v (k + 1) s ∙ ap (λ (w : ℕ). dsum v w s) (ap (λ (m : ℕ). base v ^ m) (add-one k) ∙ pow-suc (base v) k))

pub digit_sum_is : (v : ℕ) (s : List ℕ) → digit_sum v 0 s ≡ dsum v 1 s
digit_sum_is v s = dsum_right v 0 s ∙ ap (λ (w : ℕ). dsum v w s) (pow-zero (base v))

pub digit_count_nil : (v : ℕ) → digit_count v [] ≡ 0
unfolding digit_count
digit_count_nil v = refl

pub digit_count_open : (v o : ℕ) (s : List ℕ) → o ≤ v → digit_count v (o ∷ s) ≡ 0
unfolding digit_count
digit_count_open v o s h = simp (le-leb o v h)

pub digit_count_digit : (v o : ℕ) (s : List ℕ) → v < o → digit_count v (o ∷ s) ≡ 1 + digit_count v s
unfolding digit_count
digit_count_digit v o s h = simp (lt-leb o v h)

-- as the code reads on: i is the place of the next octet, and `over` the answer where the run is longer than the cap
module _ (v cap : ℕ) (over : Option Run) (l : ℕ) where
  unfoldable pub go_on : ℕ → ℕ → ℕ → List ℕ → Option Run
  go_on len w i [] = Some (record { level = l; len = len; next = i })
  go_on len w i (o ∷ s) =
      cond (leb o v) (Some (record { level = l; len = len; next = i }))
      (cond (ltb cap (len + (o - v - 1) * w)) over (go_on (len + (o - v - 1) * w) (cond (leb w cap) (w * base v) w) (i + 1) s))

  go_on_nil : (len w i : ℕ) → go_on len w i [] ≡ Some (record { level = l; len = len; next = i })
  unfolding go_on
  go_on_nil len w i = refl

  module _ (len w i o : ℕ) (s : List ℕ) where
    go_on_stop : o ≤ v → go_on len w i (o ∷ s) ≡ Some (record { level = l; len = len; next = i })
    unfolding go_on
    go_on_stop h = simp (le-leb o v h)

    go_on_over : v < o → cap < len + (o - v - 1) * w → go_on len w i (o ∷ s) ≡ over
    unfolding go_on
    go_on_over h g = simp (lt-leb o v h, lt-ltb cap (len + (o - v - 1) * w) g)

    go_on_digit : v < o → len + (o - v - 1) * w ≤ cap → go_on len w i (o ∷ s) ≡ go_on (len + (o - v - 1) * w) (cond (leb w cap) (w * base v) w) (i + 1) s
    unfolding go_on
    go_on_digit h g = simp (lt-leb o v h, le-ltb cap (len + (o - v - 1) * w) g)

  -- what comes of it, by a length and a place
  abbrev ends : ℕ → ℕ → Option Run
  ends len i = cond (leb len cap) (Some (record { level = l; len = len; next = i })) over

  ends_fit : (len i : ℕ) → len ≤ cap → Some (record { level = l; len = len; next = i }) ≡ ends len i
  ends_fit len i h = simp (le-leb len cap h)

  ends_over : (len i : ℕ) → cap < len → over ≡ ends len i
  ends_over len i h = simp (lt-leb len cap h)

  ends_eq : {a b i j : ℕ} → a ≡ b → i ≡ j → ends a i ≡ ends b j
  ends_eq p q = λ k. ends (p k) (q k)

  go_on_right : v ≤ 253 → (s : List ℕ) (len w W i : ℕ) → len ≤ cap → Weighs cap w W → go_on len w i s ≡ ends (len + dsum v W s) (i + digit_count v s)
  go_on_right low [] len w W i hl hw = go_on_nil len w i ∙ ends_fit len i hl ∙ ends_eq (omega (arith, dsum_nil v W)) (omega (arith, digit_count_nil v))
  go_on_right low (o ∷ s) len w W i hl hw =
      by_order o v
      (λ h. go_on_stop len w i o s h ∙ ends_fit len i hl ∙ ends_eq (omega (arith, dsum_open v W o s h)) (omega (arith, digit_count_open v o s h)))
      (λ h.
      ⊎_elim
      (λ e.
      by_order (len + (o - v - 1) * w) cap
      (λ g. go_on_digit len w i o s h g ∙ go_on_right low s (len + (o - v - 1) * w) (cond (leb w cap) (w * base v) w) (W * base v) (i + 1) g (next_weighs v cap low w W hw) ∙ ends_eq (omega (arith, dsum_digit v W o s h)) (omega (arith, digit_count_digit v o s h)))
      (λ g. go_on_over len w i o s h g ∙ ends_over (len + dsum v W (o ∷ s)) (i + digit_count v (o ∷ s)) (omega (arith, dsum_digit v W o s h))))
      (λ g. go_on_over len w i o s h g.0 ∙ ends_over (len + dsum v W (o ∷ s)) (i + digit_count v (o ∷ s)) (omega (arith, dsum_digit v W o s h)))
      (same_digit v cap low (o - v - 1) len w W hw))

  run_start : v ≤ 253 → (at : ℕ) (s : List ℕ) → 1 ≤ cap → go_on 1 1 (at + 1) (drop (at + 1) s) ≡ ends (run_len v s at) (run_next v s at)
  run_start low at s h = go_on_right low (drop (at + 1) s) 1 1 1 (at + 1) h (weighs_same cap 1) ∙ ends_eq (omega (arith, digit_sum_is v (drop (at + 1) s))) refl

  -- along a list, by the place i of the next octet
  module _ (len w i : ℕ) (octets : List ℕ) (X : Option Run) where
    pub go_digit : i < length octets → v < get_or octets i 0 → len + (get_or octets i 0 - v - 1) * w ≤ cap → go_on len w i (drop i octets) ≡ X → go_on (len + (get_or octets i 0 - v - 1) * w) (cond (leb w cap) (w * base v) w) (i + 1) (drop (i + 1) octets) ≡ X
    go_digit hi ho hb e = sym (go_on_digit len w i _ _ ho hb) ∙ (rw (drop_here octets i hi) at e)

    pub go_over : i < length octets → v < get_or octets i 0 → cap < len + (get_or octets i 0 - v - 1) * w → go_on len w i (drop i octets) ≡ X → over ≡ X
    go_over hi ho hb e = sym (go_on_over len w i _ _ ho hb) ∙ (rw (drop_here octets i hi) at e)

    pub go_stop : i < length octets → get_or octets i 0 ≤ v → go_on len w i (drop i octets) ≡ X → Some (record { level = l; len = len; next = i }) ≡ X
    go_stop hi ho e = sym (go_on_stop len w i _ _ ho) ∙ (rw (drop_here octets i hi) at e)

    pub go_end : length octets ≤ i → go_on len w i (drop i octets) ≡ X → Some (record { level = l; len = len; next = i }) ≡ X
    go_end hi e = sym (go_on_nil len w i) ∙ (rw (drop_of_length-le octets hi) at e)

-- ---- the step over any octets
module _ (v left : ℕ) (s : List ℕ) (at : ℕ) where
  pub cut_none : left ≡ 0 → None ≡ cut_step v left s at
  unfolding cut_step
  cut_none h = simp (eq-eqb left 0 h)

  pub cut_end : (left ≡ 0 → ⊥) → length s ≤ at → None ≡ cut_step v left s at
  unfolding cut_step
  cut_end h g = simp (ne_eqb left 0 h, le-leb (length s) at g)

  cut_run : (left ≡ 0 → ⊥) → at < length s → cond (leb (run_len v s at) left) (Some (record { level = get_or s at 0; len = run_len v s at; next = run_next v s at })) (Some (record { level = get_or s at 0; len = left; next = at })) ≡ cut_step v left s at
  unfolding cut_step
  cut_run h g = simp (ne_eqb left 0 h, lt-leb (length s) at g)

  -- as the loop over the digits begins
  pub cut_start : v ≤ 253 → (left ≡ 0 → ⊥) → at < length s → go_on v left (Some (record { level = get_or s at 0; len = left; next = at })) (get_or s at 0) 1 1 (at + 1) (drop (at + 1) s) ≡ cut_step v left s at
  cut_start low h g = run_start v left (Some (record { level = get_or s at 0; len = left; next = at })) (get_or s at 0) low at s (omega arith) ∙ cut_run h g
