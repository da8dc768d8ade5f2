-- When decoding from a record is to be had, by what stands at its octet.
use Prim.Native.Nat.{ℕ, ◌+◌, ◌-◌, ◌≤◌, ◌<◌, min}
use mathlib.Core.Path.{◌≡◌, refl, sym, ap, ◌∙◌}
use mathlib.Core.Bool.{Bool, true, false, false≢true, ◌&&◌}
use mathlib.Core.List.{List}
use native.Mathlib.Omega.{arith}
use lib.ListN.{length, replicate, take, drop, get_or, length-drop}
use lib.Seq.{drop-drop, get_or-drop}
use lib.Dec.{leb, ltb}
use borrow.Author.Tests.{le-leb, lt-leb, lt-ltb, le-ltb, leb-true, ltb-true}
use Rattle.runs.specs.Run.{levels, opens, run_len, digit_sum}
use Rattle.octets.proofs.Orders.{by_order}
use Rattle.lent.proofs.Lent.{drop_here, within}
use Rattle.runs.specs.Inner.{run_next}
use Rattle.runs.proofs.Here.{run_levels, run_fits}
use Rattle.index.specs.declared.RayRecord.{RayRecord}
use Rattle.index.specs.Index.{usable}
use Rattle.index.specs.Pace.{longer_run}

both : (x y : Bool) → x && y ≡ true → (x ≡ true) × (y ≡ true)
both true y e = (refl, e)
both false y e = absurd (false≢true e)

-- ---- the four conditions, one by one
module _ (v nb : ℕ) (s : List ℕ) (p : RayRecord) where
  pub usable_outside : length s ≤ p.offset → usable v nb s p ≡ false
  unfolding usable
  usable_outside h = simp (le-ltb _ _ h)

  pub usable_above : p.offset < length s → v < get_or s p.offset 0 → usable v nb s p ≡ false
  unfolding usable
  usable_above i h = simp (lt-ltb _ _ i, lt-leb _ _ h)

  pub usable_reached : p.offset < length s → get_or s p.offset 0 ≤ v → run_len v s p.offset ≤ p.before → usable v nb s p ≡ false
  unfolding usable
  usable_reached i l h = simp (lt-ltb _ _ i, le-leb _ _ l, le-ltb _ _ h)

  pub usable_left : p.offset < length s → get_or s p.offset 0 ≤ v → p.before < run_len v s p.offset → usable v nb s p ≡ leb (p.before + nb) (length (levels v (drop p.offset s)))
  unfolding usable
  usable_left i l h = simp (lt-ltb _ _ i, le-leb _ _ l, lt-ltb _ _ h)

-- ---- a record at the front, by the run there
module _ (v nb : ℕ) (s : List ℕ) (b : ℕ) where
  abbrev here : RayRecord
  here = record { offset = 0; before = b }

  pub longer_none : length s ≤ 0 → false ≡ longer_run v s b
  unfolding longer_run
  longer_none h = simp (le-ltb 0 (length s) h)

  -- by the run, cut off past so many bins
  pub longer_cut : 0 < length s → (level n : ℕ) → level ≡ get_or s 0 0 → n ≡ min (run_len v s 0) (b + 1) → leb level v && ltb b n ≡ longer_run v s b
  unfolding longer_run
  longer_cut i level n is e =
      by_order (run_len v s 0) b
      (λ h. ap (λ (x : ℕ). leb x v && ltb b n) is ∙ rw (lt-ltb 0 (length s) i, le-ltb b n (omega arith), le-ltb b (run_len v s 0) h))
      (λ h. ap (λ (x : ℕ). leb x v && ltb b n) is ∙ rw (lt-ltb 0 (length s) i, lt-ltb b n (omega arith), lt-ltb b (run_len v s 0) h))

  longer_there : longer_run v s b ≡ true → (0 < length s) × (get_or s 0 0 ≤ v) × (b < run_len v s 0)
  unfolding longer_run
  longer_there e =
      let p = both (ltb 0 (length s)) (leb (get_or s 0 0) v && ltb b (run_len v s 0)) e in
      let q = both (leb (get_or s 0 0) v) (ltb b (run_len v s 0)) p.1 in
      (ltb-true _ _ p.0, leb-true _ _ q.0, ltb-true _ _ q.1)

  pub longer_opens : longer_run v s b ≡ true → opens v s ≡ true
  longer_opens e = let t = longer_there e in ap (opens v) (drop_here s 0 t.0) ∙ le-leb (get_or s 0 0) v t.1

  pub longer_usable : longer_run v s b ≡ true → usable v nb s here ≡ leb (b + nb) (length (levels v s))
  longer_usable e = let t = longer_there e in usable_left v nb s here t.0 t.1 t.2

  pub shorter_usable : longer_run v s b ≡ false → usable v nb s here ≡ false
  unfolding longer_run
  shorter_usable e =
      by_order (length s) 0
      (λ h. usable_outside v nb s here h)
      (λ i.
      by_order (get_or s 0 0) v
      (λ l.
      by_order (run_len v s 0) b
      (λ h. usable_reached v nb s here i l h)
      (λ h. absurd (false≢true (sym e ∙ simp (lt-ltb _ _ i, le-leb _ _ l, lt-ltb _ _ h)))))
      (λ h. usable_above v nb s here i h))

-- one run holds the bins up to the last
module _ (v nb : ℕ) (s : List ℕ) (b : ℕ) (some : 0 < nb) (e : longer_run v s (b + nb - 1) ≡ true) where
  pub there : (0 < length s) × (get_or s 0 0 ≤ v) × (b + nb - 1 < run_len v s 0)
  there = longer_there v nb s (b + nb - 1) e

  pub whole_usable : usable v nb s (record { offset = 0; before = b }) ≡ true
  whole_usable =
      usable_left v nb s (record { offset = 0; before = b }) there.0 there.1 (omega (arith, there.2))
      ∙ le-leb (b + nb) (length (levels v s)) (omega (arith, there.2, run_fits v s 0 there.0 there.1))

  pub whole_levels : replicate nb (get_or s 0 0) ≡ take nb (drop b (levels v s))
  whole_levels =
      sym (ap (λ (l : List ℕ). take nb (drop b l)) (run_levels v s 0 there.0 there.1) ∙ within b nb (run_len v s 0) (get_or s 0 0) (levels v (drop (run_next v s 0) s)) (omega (arith, there.2)))

-- ---- a record at an offset is one at the front of the octets from there on
pub usable_from : (v nb : ℕ) (s : List ℕ) (p : RayRecord) → p.offset < length s → usable v nb (drop p.offset s) (record { offset = 0; before = p.before }) ≡ usable v nb s p
usable_from v nb s p i =
    let at = p.offset in
    let t = drop at s in
    let q : RayRecord = record { offset = 0; before = p.before } in
    let inside : 0 < length t = omega (arith, length-drop at s) in
    let octet : get_or t 0 0 ≡ get_or s at 0 = get_or-drop at s 0 0 ∙ ap (λ (n : ℕ). get_or s n 0) (omega arith) in
    let run : run_len v t 0 ≡ run_len v s at = ap (λ (l : List ℕ). 1 + digit_sum v 0 l) (drop-drop 1 at s) in
    by_order (get_or s at 0) v
    (λ l.
    by_order (run_len v s at) p.before
    (λ h. usable_reached v nb t q inside (omega (arith, octet)) (omega (arith, run)) ∙ sym (usable_reached v nb s p i l h))
    (λ h. usable_left v nb t q inside (omega (arith, octet)) (omega (arith, run)) ∙ sym (usable_left v nb s p i l h)))
    (λ h. usable_above v nb t q inside (omega (arith, octet)) ∙ sym (usable_above v nb s p i h))

-- ---- what stands at a record that fits
pub record Fits (v nb : ℕ) (s : List ℕ) (p : RayRecord) : Type 0 where
  pub inside : p.offset < length s
  pub opened : opens v (drop p.offset s) ≡ true
  pub given : p.before + nb ≤ length (levels v (drop p.offset s))

pub usable_fits : (v nb : ℕ) (s : List ℕ) (p : RayRecord) → usable v nb s p ≡ true → Fits v nb s p
usable_fits v nb s p u =
    by_order (length s) p.offset
    (λ h. absurd (never (usable_outside v nb s p h)))
    (λ i.
    by_order (get_or s p.offset 0) v
    (λ l.
    by_order (run_len v s p.offset) p.before
    (λ h. absurd (never (usable_reached v nb s p i l h)))
    (λ h. record {
      inside = i;
      opened = ap (opens v) (drop_here s p.offset i) ∙ le-leb (get_or s p.offset 0) v l;
      given = leb-true (p.before + nb) (length (levels v (drop p.offset s))) (sym (usable_left v nb s p i l h) ∙ u);
    }))
    (λ h. absurd (never (usable_above v nb s p i h))))
  where
    never : usable v nb s p ≡ false → ⊥
    never f = let w : ◌≡◌ {A = ℕ} 0 1 = cc (sym u ∙ f) in omega arith
