-- The scan's pass, octet by octet, with the bins still to come, the weight and the place as arguments: it finds what the definition gives, and stops at the octet at fault.
use Prim.Native.Nat.{ℕ, ◌+◌, ◌-◌, ◌*◌, ◌≤◌, ◌<◌}
use mathlib.Core.Path.{◌≡◌, refl, sym, ap, ◌∙◌}
use mathlib.Core.Logic.{⊎_elim}
use mathlib.Core.Bool.{Bool, true, false, cond}
use mathlib.Core.List.{List, [], ◌∷◌}
use native.Mathlib.Omega.{arith}
use lib.ListN.{length, drop, get_or, drop_of_length-le}
use lib.Seq.{take_all}
use lib.Dec.{leb, ltb, eqb}
use borrow.Author.Tests.{le-leb, lt-leb, lt-ltb, le-ltb, eq-eqb, ne_eqb}
use Rattle.runs.specs.Run.{base, gives, fault_at}
use Rattle.scan.specs.Inner.{scanned}
use Rattle.octets.proofs.Orders.{by_order}
use Rattle.runs.proofs.Bins.{rest, rest_nil, rest_open, rest_digit, rest_bins, gives_nil, gives_level, gives_above, Weighs, weighs_same, next_weighs, same_digit}
use Rattle.runs.proofs.Reach.{reach, reach_nil, reach_full, reach_open, reach_past, reach_digit, fault_above, fault_reach}
use Rattle.runs.proofs.Fault.{fault_inside}
use Rattle.lent.proofs.Lent.{drop_here}
use Rattle.std.specs.Prelude.{Err, Ok, Result, ⊤}

-- so many bins where so many are wanted; else the place i
abbrev pub verdict : ℕ → ℕ → ℕ → Result ⊤ ℕ
verdict bins left i = cond (eqb bins left) (Ok tt) (Err i)

-- in a run, the next digit's weight w, at the place i
unfoldable pub in_run : ℕ → ℕ → ℕ → ℕ → List ℕ → Result ⊤ ℕ
in_run v left w i [] = verdict 0 left i
in_run v left w i (o ∷ s) =
    cond (leb o v)
    (cond (leb 1 left) (in_run v (left - 1) 1 (i + 1) s) (Err i))
    (cond (ltb left ((o - v - 1) * w)) (Err i) (in_run v (left - (o - v - 1) * w) (cond (leb w 2097152) (w * base v) w) (i + 1) s))

-- where a level has to stand
unfoldable pub at_run : ℕ → ℕ → ℕ → List ℕ → Result ⊤ ℕ
at_run v left i [] = verdict 0 left i
at_run v left i (o ∷ s) = cond (leb o v) (cond (leb 1 left) (in_run v (left - 1) 1 (i + 1) s) (Err i)) (Err i)

in_run_nil : (v left w i : ℕ) → in_run v left w i [] ≡ verdict 0 left i
unfolding in_run
in_run_nil v left w i = refl

at_run_nil : (v left i : ℕ) → at_run v left i [] ≡ verdict 0 left i
unfolding at_run
at_run_nil v left i = refl

module _ (v left w i o : ℕ) (s : List ℕ) where
  in_run_full : o ≤ v → left < 1 → in_run v left w i (o ∷ s) ≡ Err i
  unfolding in_run
  in_run_full h g = simp (le-leb o v h, lt-leb 1 left g)

  in_run_open : o ≤ v → 1 ≤ left → in_run v left w i (o ∷ s) ≡ in_run v (left - 1) 1 (i + 1) s
  unfolding in_run
  in_run_open h g = simp (le-leb o v h, le-leb 1 left g)

  in_run_past : v < o → left < (o - v - 1) * w → in_run v left w i (o ∷ s) ≡ Err i
  unfolding in_run
  in_run_past h g = simp (lt-leb o v h, lt-ltb left ((o - v - 1) * w) g)

  in_run_digit : v < o → (o - v - 1) * w ≤ left → in_run v left w i (o ∷ s) ≡ in_run v (left - (o - v - 1) * w) (cond (leb w 2097152) (w * base v) w) (i + 1) s
  unfolding in_run
  in_run_digit h g = simp (lt-leb o v h, le-ltb left ((o - v - 1) * w) g)

  at_run_above : v < o → at_run v left i (o ∷ s) ≡ Err i
  unfolding at_run
  at_run_above h = simp (lt-leb o v h)

  at_run_level : o ≤ v → at_run v left i (o ∷ s) ≡ in_run v left w i (o ∷ s)
  unfolding at_run in_run
  at_run_level h = simp (le-leb o v h)

over : (x left i j : ℕ) → left < x → i ≡ j → Err i ≡ verdict x left j
over x left i j h e = simp (ne_eqb x left (omega arith)) (ap (λ (k : ℕ). Err k) e)

-- d of the bins taken, as many are wanted less
pub taken : (x d y left i j : ℕ) → d ≤ left → y ≡ d + x → i ≡ j → verdict x (left - d) i ≡ verdict y left j
taken x d y left i j h e p =
    by_order x (left - d)
    (λ g. by_order (left - d) x (λ f. simp (eq-eqb x (left - d) (omega arith), eq-eqb y left (omega arith))) (λ f. other (omega arith) (omega arith)))
    (λ g. other (omega arith) (omega arith))
  where
    other : (x ≡ left - d → ⊥) → (y ≡ left → ⊥) → verdict x (left - d) i ≡ verdict y left j
    other n m = simp (ne_eqb x (left - d) n, ne_eqb y left m) (ap (λ (k : ℕ). Err k) p)

module _ (v : ℕ) (low : v ≤ 253) where
  in_run_right : (s : List ℕ) (left w W i : ℕ) → left ≤ 2097152 → Weighs 2097152 w W → in_run v left w i s ≡ verdict (rest v W s) left (i + reach v W left s)
  in_run_right [] left w W i few hw =
      in_run_nil v left w i ∙ (λ k. verdict (sym (rest_nil v W) k) left (let same : i ≡ i + reach v W left [] = omega (arith, reach_nil v W left) in same k))
  in_run_right (o ∷ s) left w W i few hw =
      by_order o v
      (λ h.
      by_order 1 left
      (λ g.
      in_run_open v left w i o s h g
      ∙ in_run_right s (left - 1) 1 1 (i + 1) (omega arith) (weighs_same 2097152 1)
      ∙ taken (rest v 1 s) 1 (rest v W (o ∷ s)) left _ _ g (rest_open v W o s h) (omega (arith, reach_open v W left o s h g)))
      (λ g. in_run_full v left w i o s h g ∙ over (rest v W (o ∷ s)) left i _ (omega (arith, rest_open v W o s h)) (omega (arith, reach_full v W left o s h g))))
      (λ h.
      let d : ℕ = (o - v - 1) * w in
      let sum = rest_digit v W o s h in
      ⊎_elim
      (λ e.
      by_order d left
      (λ g.
      let same : left - d ≡ left - (o - v - 1) * W = omega (arith, e) in
      in_run_digit v left w i o s h g
      ∙ in_run_right s (left - d) (cond (leb w 2097152) (w * base v) w) (W * base v) (i + 1) (omega arith) (next_weighs v 2097152 low w W hw)
      ∙ taken (rest v (W * base v) s) d (rest v W (o ∷ s)) left _ _ g (omega (arith, sum, e))
      (omega (arith, reach_digit v W left o s h (omega (arith, e)), ap (λ (l : ℕ). reach v (W * base v) l s) same)))
      (λ g. in_run_past v left w i o s h g ∙ over (rest v W (o ∷ s)) left i _ (omega (arith, sum, e)) (omega (arith, reach_past v W left o s h (omega (arith, e))))))
      (λ g. in_run_past v left w i o s h (omega (arith, g.0)) ∙ over (rest v W (o ∷ s)) left i _ (omega (arith, sum, g.1)) (omega (arith, reach_past v W left o s h (omega (arith, g.1)))))
      (same_digit v 2097152 low (o - v - 1) 0 w W hw))

  -- from the first octet on, the pass answers what the octets give, and where not
  pub at_run_right : (n : ℕ) (s : List ℕ) → n ≤ 2097152 → at_run v n 0 s ≡ scanned v n s
  at_run_right n [] few = at_run_nil v n 0 ∙ (λ k. cond (sym (gives_nil v n) k) (Ok tt) (Err (let same : 0 ≡ fault_at v n [] = omega (arith, fault_inside v n []) in same k)))
  at_run_right n (o ∷ s) few =
      by_order o v
      (λ h.
      let opened = le-leb o v h in
      at_run_level v n 1 0 o s h
      ∙ in_run_right (o ∷ s) n 1 1 0 few (weighs_same 2097152 1)
      ∙ (λ k. cond (eqb (sym (rest_bins v (o ∷ s) opened) k) n) (Ok tt) (Err (let same : 0 + reach v 1 n (o ∷ s) ≡ fault_at v n (o ∷ s) = omega (arith, fault_reach v n (o ∷ s) opened) in same k)))
      ∙ ap (λ (b : Bool). cond b (Ok tt) (Err (fault_at v n (o ∷ s)))) (sym (gives_level v n o s h)))
      (λ h. at_run_above v n 1 0 o s h ∙ (λ k. cond (sym (gives_above v n o s h) k) (Ok tt) (Err (sym (fault_above v n (o ∷ s) (lt-leb o v h)) k))))

-- no octets give no bins
pub none_given : (v n : ℕ) (s : List ℕ) → length s ≡ 0 → scanned v n s ≡ verdict 0 n 0
none_given v n s h =
    (λ k. cond (ap (λ (l : List ℕ). gives v n l) (sym (take_all 0 s (omega arith))) k) (Ok tt) (Err (let none : fault_at v n s ≡ 0 = omega (arith, fault_inside v n s) in none k)))
    ∙ ap (λ (b : Bool). cond b (Ok tt) (Err 0)) (gives_nil v n)

pub all_read : (left i : ℕ) → left ≡ 0 → verdict 0 left i ≡ (Ok tt)
all_read left i e = simp (eq-eqb 0 left (sym e))

pub too_few : (left i : ℕ) → (left ≡ 0 → ⊥) → verdict 0 left i ≡ Err i
too_few left i e = simp (ne_eqb 0 left (λ h. e (sym h)))

-- ---- the pass along the octets, o the next one, at the place i: X is the answer for the whole
ended : (v left w : ℕ) (octets : List ℕ) (i : ℕ) (X : Result ⊤ ℕ) → length octets ≤ i → in_run v left w i (drop i octets) ≡ X → X ≡ verdict 0 left i
ended v left w octets i X h e = sym (rw (drop_of_length-le octets h) at e) ∙ in_run_nil v left w i

-- where a run has to open
module _ (v left : ℕ) (octets : List ℕ) (i o : ℕ) (X : Result ⊤ ℕ) (inside : i < length octets) (is : o ≡ get_or octets i 0) where
  next_octet : drop i octets ≡ o ∷ drop (i + 1) octets
  next_octet = drop_here octets i inside ∙ ap (λ (x : ℕ). x ∷ drop (i + 1) octets) (sym is)

  pub above_fails : v < o → at_run v left i (drop i octets) ≡ X → X ≡ Err i
  above_fails high e = sym (rw next_octet at e) ∙ at_run_above v left 1 i o _ high

  pub full_fails : o ≤ v → left < 1 → at_run v left i (drop i octets) ≡ X → X ≡ Err i
  full_fails low full e = sym (rw next_octet at e) ∙ at_run_level v left 1 i o _ low ∙ in_run_full v left 1 i o _ low full

  pub level_step : o ≤ v → 1 ≤ left → at_run v left i (drop i octets) ≡ X → in_run v (left - 1) 1 (i + 1) (drop (i + 1) octets) ≡ X
  level_step low more e = sym (in_run_open v left 1 i o _ low more) ∙ sym (at_run_level v left 1 i o _ low) ∙ (rw next_octet at e)

  pub level_last : o ≤ v → 1 ≤ left → length octets ≤ i + 1 → at_run v left i (drop i octets) ≡ X → X ≡ verdict 0 (left - 1) (i + 1)
  level_last low more end e = ended v (left - 1) 1 octets (i + 1) X end (level_step low more e)

-- in a run
module _ (v left w : ℕ) (octets : List ℕ) (i o : ℕ) (X : Result ⊤ ℕ) (inside : i < length octets) (is : o ≡ get_or octets i 0) where
  here : drop i octets ≡ o ∷ drop (i + 1) octets
  here = next_octet v left octets i o X inside is

  pub digits_level : o ≤ v → in_run v left w i (drop i octets) ≡ X → at_run v left i (drop i octets) ≡ X
  digits_level low e = rw here (at_run_level v left w i o _ low ∙ (rw here at e))

  pub past_fails : v < o → left < (o - v - 1) * w → in_run v left w i (drop i octets) ≡ X → X ≡ Err i
  past_fails high past e = sym (rw here at e) ∙ in_run_past v left w i o _ high past

  pub digit_step : v < o → (o - v - 1) * w ≤ left → in_run v left w i (drop i octets) ≡ X → in_run v (left - (o - v - 1) * w) (cond (leb w 2097152) (w * base v) w) (i + 1) (drop (i + 1) octets) ≡ X
  digit_step high within e = sym (in_run_digit v left w i o _ high within) ∙ (rw here at e)

  pub digit_last : v < o → (o - v - 1) * w ≤ left → length octets ≤ i + 1 → in_run v left w i (drop i octets) ≡ X → X ≡ verdict 0 (left - (o - v - 1) * w) (i + 1)
  digit_last high within end e = ended v (left - (o - v - 1) * w) (cond (leb w 2097152) (w * base v) w) octets (i + 1) X end (digit_step high within e)

-- ---- what a scan tells
pub told : (b : Bool) (i : ℕ) → ◌≡◌ {A = Result ⊤ ℕ} (Ok tt) (cond b (Ok tt) (Err i)) → b ≡ true
told true i e = refl
told false i e = absurd (let z : ◌≡◌ {A = ℕ} 0 1 = cc e in omega arith)

pub missed : (b : Bool) (i j : ℕ) → ◌≡◌ {A = Result ⊤ ℕ} (Err j) (cond b (Ok tt) (Err i)) → (b ≡ false) × (j ≡ i)
missed false i j e = (refl, cc e)
missed true i j e = absurd (let z : ◌≡◌ {A = ℕ} 0 1 = cc e in omega arith)
