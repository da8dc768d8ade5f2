-- The record of a bin: how it is found run by run, and that decoding from it gives the bins from there on.
use Prim.Native.Nat.{ℕ, zero, suc, ◌+◌, ◌-◌, ◌*◌, ◌≤◌, ◌<◌}
use mathlib.Core.Path.{◌≡◌, refl, sym, ap, subst, ◌∙◌}
use mathlib.Core.Bool.{true}
use mathlib.Core.List.{List, [], ◌∷◌, ◌++◌, append_assoc}
use native.Mathlib.Omega.{arith}
use native.Mathlib.Nat.{suc-mul, mul-le-mul, le_of_suc-le-suc}
use lib.ListN.{length, take, drop, get_or, set, replicate, length-append, length-drop, length-replicate}
use lib.Seq.{drop-drop, drop_at, drop-cons, drop-nil, set_at}
use lib.Dec.{leb}
use borrow.Author.Tests.{le-leb, lt-leb, lt-ltb, le-ltb, leb-true}
use Rattle.runs.specs.Run.{levels, opens, gives, digit_sum, run_len}
use Rattle.runs.specs.Inner.{Stands}
use Rattle.lent.specs.Lent.{front, between}
use Rattle.octets.proofs.Orders.{by_order}
use Rattle.runs.proofs.Bins.{levels_nil, levels_open, levels_digit}
use Rattle.runs.proofs.Here.{here_inside, run_fits, gives_true}
use Rattle.index.specs.declared.RayRecord.{RayRecord}
use Rattle.index.specs.Index.{usable, from_record, record_of, records}
use Rattle.index.proofs.Usable.{usable_left}

-- ---- by the first octet
module _ (v o : ℕ) (s : List ℕ) (at a : ℕ) where
  record_in : o ≤ v → a < 1 + digit_sum v 0 s → record_of v (o ∷ s) at a ≡ record { offset = at; before = a }
  unfolding record_of
  record_in l h = simp (le-leb _ _ l, lt-ltb _ _ h)

  record_past : o ≤ v → 1 + digit_sum v 0 s ≤ a → record_of v (o ∷ s) at a ≡ record_of v s (at + 1) (a - (1 + digit_sum v 0 s))
  unfolding record_of
  record_past l h = simp (le-leb _ _ l, le-ltb _ _ h)

  record_digit : v < o → record_of v (o ∷ s) at a ≡ record_of v s (at + 1) a
  unfolding record_of
  record_digit h = simp (lt-leb _ _ h)

-- a run opens: its own bins and the rest
open_size : (v o : ℕ) (t : List ℕ) → o ≤ v → length (levels v (o ∷ t)) ≡ 1 + digit_sum v 0 t + length (levels v t)
open_size v o t low =
    let m : ℕ = 1 + digit_sum v 0 t in
    ap length (levels_open v o t low) ∙ length-append (replicate m o) (levels v t) ∙ ap (λ (n : ℕ). n + length (levels v t)) (length-replicate m o)

-- octets from a place on give no more bins than all of them
suffix : (v : ℕ) (t : List ℕ) (k : ℕ) → length (levels v (drop k t)) ≤ length (levels v t)
suffix v [] k = omega (arith, ap (λ (l : List ℕ). length (levels v l)) (drop-nil k))
suffix v (x ∷ t) zero = omega arith
suffix v (x ∷ t) (suc k) =
    by_order x v
    (λ low. omega (arith, suffix v t k, open_size v x t low))
    (λ high. omega (arith, suffix v t k, ap length (levels_digit v x t high)))

one_on : (k : ℕ) → suc (k + 1) ≡ suc k + 1
one_on k = omega arith

-- past a run of m bins each count is less by m
without : (m bins all rest : ℕ) → m + all ≡ bins + rest → rest ≤ all → (m ≤ bins) × (all ≡ bins - m + rest)
without m bins all rest e h = (omega arith, omega arith)

shifted : (a bins m run : ℕ) → m ≤ bins → bins ≤ a → a < bins + run → (m ≤ a) × (bins - m ≤ a - m) × (a - m < bins - m + run) × (a - m - (bins - m) ≡ a - bins)
shifted a bins m run p q h = (omega arith, omega arith, omega arith, omega arith)

-- ---- the record of a bin is the run that holds it: as many bins come before it as the octets from it on leave
found : (v : ℕ) (t : List ℕ) (k at a bins : ℕ) → opens v (drop k t) ≡ true → k < length t → length (levels v t) ≡ bins + length (levels v (drop k t)) → bins ≤ a → a < bins + run_len v t k
    → record_of v t at a ≡ record { offset = at + k; before = a - bins }
found v [] k at a bins o i e l h = absurd (omega arith)
found v (x ∷ t) zero at a bins o i e l h =
    let low : x ≤ v = leb-true x v o in
    let none : a ≡ a - bins = omega arith in
    let here : at ≡ at + 0 = omega arith in
    record_in v x t at a low (omega arith) ∙ (λ j. record { offset = here j; before = none j })
found v (x ∷ t) (suc k) at a bins o i e l h =
    let place : at + 1 + k ≡ at + suc k = omega arith in
    let inside : k < length t = le_of_suc-le-suc i in
    let same : run_len v t k ≡ run_len v (x ∷ t) (suc k) = ap (λ (n : ℕ). 1 + digit_sum v 0 (drop n (x ∷ t))) (one_on k) in
    let h' : a < bins + run_len v t k = subst (λ (r : ℕ). a < bins + r) (sym same) h in
    by_order x v
    (λ low.
    let m : ℕ = 1 + digit_sum v 0 t in
    let w = without m bins (length (levels v t)) (length (levels v (drop k t))) (sym (open_size v x t low) ∙ e) (suffix v t k) in
    let z = shifted a bins m (run_len v t k) w.0 l h' in
    record_past v x t at a low z.0 ∙ found v t k (at + 1) (a - m) (bins - m) o inside w.1 z.1 z.2 ∙ (λ j. record { offset = place j; before = z.3 j }))
    (λ high.
    record_digit v x t at a high
    ∙ found v t k (at + 1) a bins o inside (sym (ap length (levels_digit v x t high)) ∙ e) l h'
    ∙ (λ j. record { offset = place j; before = a - bins }))

pub record_held : (v : ℕ) (s : List ℕ) (at bins a : ℕ) → Stands v s at bins → bins ≤ a → a < bins + run_len v s at → a < length (levels v s) → record_of v s 0 a ≡ record { offset = at; before = a - bins }
record_held v s at bins a k l h some =
    let front : 0 + at ≡ at = omega arith in
    found v s at 0 a bins k.opened (here_inside v s at bins k (omega arith)) (omega (arith, k.within, simp length-drop at (ap length k.rest))) l h
    ∙ (λ j. record { offset = front j; before = a - bins })

-- ---- decoding from the record of bin a gives the bins from a on
pub record Right (v : ℕ) (t : List ℕ) (at a : ℕ) (rec : RayRecord) : Type 0 where
  pub k : ℕ
  pub place : rec.offset ≡ at + k
  pub inside : k < length t
  pub low : get_or t k 0 ≤ v
  pub short : rec.before < run_len v t k
  pub rest : drop a (levels v t) ≡ drop rec.before (levels v (drop k t))

right_on_lem : (v o : ℕ) (t : List ℕ) (at a b : ℕ) (rec : RayRecord) → drop a (levels v (o ∷ t)) ≡ drop b (levels v t) → Right v t (at + 1) b rec → Right v (o ∷ t) at a rec
right_on_lem v o t at a b rec e r =
    let same : run_len v t r.k ≡ run_len v (o ∷ t) (suc r.k) = ap (λ (n : ℕ). 1 + digit_sum v 0 (drop n (o ∷ t))) (one_on r.k) in
    record {
      k = suc r.k;
      place = omega (arith, r.place);
      inside = omega (arith, r.inside);
      low = r.low;
      short = omega (arith, r.short);
      rest = e ∙ r.rest;
    }

-- past a run: what is left of the bins and of their number
module _ (v o : ℕ) (t : List ℕ) (a : ℕ) (low : o ≤ v) (past : 1 + digit_sum v 0 t ≤ a) where
  abbrev run : ℕ
  run = 1 + digit_sum v 0 t

  rest_past : drop a (levels v (o ∷ t)) ≡ drop (a - run) (levels v t)
  rest_past =
      let cut : a ≡ run + (a - run) = omega arith in
      (λ i. drop (cut i) (levels_open v o t low i))
      ∙ sym (drop-drop (a - run) run (replicate run o ++ levels v t))
      ∙ ap (λ (x : List ℕ). drop (a - run) x) (drop_at (replicate run o) (levels v t) run (length-replicate run o))

  fewer_past : a < length (levels v (o ∷ t)) → a - run < length (levels v t)
  fewer_past h =
      let h' : a < run + length (levels v t) = subst (λ (n : ℕ). a < n) (open_size v o t low) h in
      omega arith

pub record_right : (v : ℕ) (t : List ℕ) (at a : ℕ) → a < length (levels v t) → Right v t at a (record_of v t at a)
record_right v [] at a h = absurd (omega (arith, ap length (levels_nil v)))
record_right v (o ∷ t) at a h =
    by_order o v
    (λ low.
    let m : ℕ = 1 + digit_sum v 0 t in
    by_order m a
    (λ past.
    subst (Right v (o ∷ t) at a) (sym (record_past v o t at a low past))
    (right_on_lem v o t at a (a - m) (record_of v t (at + 1) (a - m)) (rest_past v o t a low past) (record_right v t (at + 1) (a - m) (fewer_past v o t a low past h))))
    (λ short.
    subst (Right v (o ∷ t) at a) (sym (record_in v o t at a low short))
    (record { k = 0; place = omega arith; inside = omega arith; low = low; short = short; rest = refl })))
    (λ high.
    let row = levels_digit v o t high in
    subst (Right v (o ∷ t) at a) (sym (record_digit v o t at a high))
    (right_on_lem v o t at a a (record_of v t (at + 1) a) (ap (λ (x : List ℕ). drop a x) row) (record_right v t (at + 1) a (subst (λ (n : ℕ). a < n) (ap length row) h))))

module _ (v nb : ℕ) (s : List ℕ) (a : ℕ) (some : a < length (levels v s)) (reach : a + nb ≤ length (levels v s)) where
  abbrev made : RayRecord
  made = record_of v s 0 a

  right : Right v s 0 a made
  right = record_right v s 0 a some

  at_offset : right.k ≡ made.offset
  at_offset = omega (arith, right.place)

  pub made_from : from_record v nb s made ≡ take nb (drop a (levels v s))
  made_from = sym (ap (λ (l : List ℕ). take nb l) (right.rest ∙ ap (λ (n : ℕ). drop made.before (levels v (drop n s))) at_offset))

  pub made_usable : usable v nb s made ≡ true
  made_usable =
      let r = right in
      let k = r.k in
      let fits = run_fits v s k r.inside r.low in
      let size : length (levels v s) - a ≡ length (levels v (drop k s)) - made.before =
      sym (length-drop a (levels v s)) ∙ ap length r.rest ∙ length-drop made.before (levels v (drop k s)) in
      let inside : made.offset < length s = omega (arith, r.inside, at_offset) in
      let low : get_or s made.offset 0 ≤ v = ap≤ r.low in
      usable_left v nb s made inside low (subst (λ (n : ℕ). made.before < run_len v s n) at_offset r.short)
      ∙ ap (λ (n : ℕ). leb (made.before + nb) (length (levels v (drop n s)))) (sym at_offset)
      ∙ le-leb (made.before + nb) (length (levels v (drop k s))) (omega (arith, r.short))
    where
      ap≤ : get_or s right.k 0 ≤ v → get_or s made.offset 0 ≤ v
      ap≤ h = subst (λ (n : ℕ). get_or s n 0 ≤ v) at_offset h

-- ---- the row of records
module _ (nb v : ℕ) (s : List ℕ) where
  pub records_more : (n a : ℕ) → records (suc n) nb v s a ≡ records n nb v s a ++ (record_of v s 0 (a + n * nb) ∷ [])
  unfolding records
  records_more zero a = let none : a ≡ a + 0 * nb = omega arith in ap (λ (m : ℕ). record_of v s 0 m ∷ []) none
  records_more (suc n) a =
      let on : a + nb + n * nb ≡ a + suc n * nb = omega (arith, suc-mul n nb) in
      ap (λ (l : List RayRecord). record_of v s 0 a ∷ l) (records_more n (a + nb) ∙ ap (λ (m : ℕ). records n nb v s (a + nb) ++ (record_of v s 0 m ∷ [])) on)

  pub length_records : (n a : ℕ) → length (records n nb v s a) ≡ n
  unfolding records
  length_records zero a = refl
  length_records (suc n) a = ap suc (length_records n (a + nb))

  pub records_at : (n a r : ℕ) (e : RayRecord) → r < n → get_or (records n nb v s a) r e ≡ record_of v s 0 (a + r * nb)
  unfolding records
  records_at zero a r e h = absurd (omega arith)
  records_at (suc n) a zero e h = let none : a ≡ a + 0 * nb = omega arith in ap (λ (m : ℕ). record_of v s 0 m) none
  records_at (suc n) a (suc r) e h =
      let on : a + nb + r * nb ≡ a + suc r * nb = omega (arith, suc-mul r nb) in
      records_at n (a + nb) r e (omega arith) ∙ ap (λ (m : ℕ). record_of v s 0 m) on

-- one element more at the front of a row
pub front_put : {A : Type 0} (P d : List A) (x : A) → length P < length d → set (front P d) (length P) x ≡ front (P ++ (x ∷ [])) d
front_put {A} P d x h =
    let more : suc (length P) ≡ length (P ++ (x ∷ [])) = omega (arith, length-append P (x ∷ [])) in
    ap (λ (l : List A). set (P ++ l) (length P) x) (drop-cons d (length P) x h)
    ∙ set_at P (get_or d (length P) x) (drop (suc (length P)) d) x (length P) refl
    ∙ sym (append_assoc P (x ∷ []) (drop (suc (length P)) d))
    ∙ ap (λ (n : ℕ). (P ++ (x ∷ [])) ++ drop n d) more

-- ---- FORMAT.md, "Rays by a record": "With the record that building made for that file, cut and ray, it provably equals the plain call"
module _ (v nb nr : ℕ) (s : List ℕ) (some : 0 < nb) (accepted : gives v (nr * nb) s ≡ true) (r : ℕ) (ray : r < nr) (e : RayRecord) where
  abbrev record_of_lem : RayRecord
  record_of_lem = get_or (records nr nb v s 0) r e

  ends : r * nb + nb ≤ length (levels v s)
  ends = omega (arith, suc-mul r nb, mul-le-mul {n₁ = suc r} {m₁ = nb} {n₂ = nr} {m₂ = nb} (omega arith) (omega arith), (gives_true v (nr * nb) s accepted).1)

  is_made : record_of_lem ≡ record_of v s 0 (r * nb)
  is_made = let none : 0 + r * nb ≡ r * nb = omega arith in records_at nb v s nr 0 r e ray ∙ ap (λ (m : ℕ). record_of v s 0 m) none

  pub built_usable : usable v nb s record_of_lem ≡ true
  built_usable = ap (λ (p : RayRecord). usable v nb s p) is_made ∙ made_usable v nb s (r * nb) (omega (arith, ends)) ends

  pub built_from : from_record v nb s record_of_lem ≡ between (r * nb) (r * nb + nb) (levels v s)
  built_from =
      let span : nb ≡ r * nb + nb - r * nb = omega arith in
      ap (λ (p : RayRecord). from_record v nb s p) is_made ∙ made_from v nb s (r * nb) (omega (arith, ends)) ends ∙ ap (λ (n : ℕ). take n (drop (r * nb) (levels v s))) span
