-- A list fetched in portions, each call at the point that the call before handed back: what a call at the next point has to list is what the call before
-- left. Demand 3 goes by these laws.
use Prim.Native.Nat.{ℕ, zero, suc, ◌+◌, ◌*◌, ◌/◌, ◌<◌}
use mathlib.Core.Path.{◌≡◌, refl, ap, sym, subst, ◌∙◌}
use mathlib.Core.Logic.{inl, inr}
use mathlib.Core.Bool.{true, or-true, ◌&&◌}
use lib.Dec.{ltb}
use borrow.Author.Tests.{lt-ltb, eq-eqb}
use mathlib.Core.List.{List, [], ◌∷◌}
use native.Mathlib.Nat.{zero-add, zero-mul, div-add-mod'}
use native.Mathlib.Omega.{arith}
use lib.ListN.{length, drop}
use Rattle.runs.specs.Run.{levels}
use Rattle.stretches.specs.Stretch.{Entry, KindOfLevel, per_entry, kind_at, starts, entry_at, stretches_of, from_place}
use Rattle.stretches.specs.Call.{stretches_from, fitting, answer, answer_of, right_point}
use Rattle.stretches.specs.Meaning.{In}
use Rattle.stretches.proofs.Meaning.{past_in, is_list}
use Rattle.stretches.specs.declared.Listing.{Listing}
use Rattle.stretches.proofs.Rising.{place_of, Rising, past_all, past_none, past_rising, past_past, past_drop, drop_rising, list_rising}

in_drop : (n : ℕ) (l : List Entry) (e : Entry) → In e (drop n l) → In e l
unfolding In
in_drop zero l e i = i
in_drop (suc n) [] e i = i
in_drop (suc n) (d ∷ ds) e i = inr (in_drop n ds e i)

pub record Point : Type 0 where
  pub ray : ℕ
  pub bin : ℕ

-- the point that is handed back
abbrev pub next : Listing → Point
next l = record { ray = l.ray; bin = l.bin }

module _ (sc : KindOfLevel) (v : ℕ) (xs : List ℕ) (nb nr : ℕ) where
  -- what a call at a point has to list
  abbrev pub from : Point → List Entry
  from p = stretches_from sc v xs nb nr (p.ray * nb + p.bin)

  -- the whole list
  abbrev pub whole : List Entry
  whole = stretches_of sc (levels v xs) nb (nr * nb)

  abbrev pub start : Point
  start = record { ray = 0; bin = 0 }

  abbrev pub end : Point
  end = record { ray = nr; bin = 0 }

  whole_rising : Rising nb 0 (nr * nb) whole
  whole_rising = subst (λ (x : ℕ). Rising nb 0 x whole) (zero-add (nr * nb)) (list_rising (starts (kind_at sc (levels v xs)) nb) (entry_at sc (levels v xs) nb) nb (λ p n. div-add-mod' p nb) 0 (nr * nb))

  from_rising : (p : Point) → Rising nb (p.ray * nb + p.bin) (nr * nb) (from p)
  unfolding stretches_from
  from_rising p = past_rising nb 0 (nr * nb) (p.ray * nb + p.bin) whole whole_rising

  pub from_start : from start ≡ whole
  unfolding stretches_from
  from_start = ap (λ (x : ℕ). from_place nb x whole) (ap (λ (x : ℕ). x + 0) (zero-mul nb)) ∙ past_all nb 0 (nr * nb) whole whole_rising

  pub from_end : from end ≡ []
  unfolding stretches_from
  from_end = past_none nb 0 (nr * nb) (nr * nb + 0) whole (omega arith) whole_rising

  -- what a call at the next point has to list is what the call before left
  pub from_next : (p : Point) (n : ℕ) → from (next (answer_of nr n (from p))) ≡ drop (n / per_entry) (from p)
  unfolding answer_of stretches_from Rising
  from_next p n = go (drop (n / per_entry) (from p)) refl
    where
      go : (l : List Entry) → drop (n / per_entry) (from p) ≡ l
          → from (next (answer nr (length (fitting n (from p))) l)) ≡ l
      go [] h = from_end
      go (e ∷ es) h =
          let r = from_rising p in
          let d : Rising nb (p.ray * nb + p.bin) (nr * nb) (e ∷ es) = subst (Rising nb (p.ray * nb + p.bin) (nr * nb)) h (drop_rising nb (p.ray * nb + p.bin) (nr * nb) (n / per_entry) (from p) r) in
          sym (past_past nb (p.ray * nb + p.bin) (place_of nb e) whole d.0) ∙ past_drop nb (p.ray * nb + p.bin) (nr * nb) (n / per_entry) (from p) e es r h ∙ h

  -- with nothing left the point is (nr, 0)
  pub next_end : (p : Point) (n : ℕ) → from (next (answer_of nr n (from p))) ≡ [] → next (answer_of nr n (from p)) ≡ end
  next_end p n h = go (drop (n / per_entry) (from p)) refl (sym (from_next p n) ∙ h)
    where
      go : (l : List Entry) → drop (n / per_entry) (from p) ≡ l → drop (n / per_entry) (from p) ≡ [] → next (answer_of nr n (from p)) ≡ end
      go l e z = unfold answer_of in (rw z)

  -- the next point is one that the next call takes
  pub next_right : (p : Point) (n : ℕ) → 0 < nb → right_point nb nr (next (answer_of nr n (from p))).ray (next (answer_of nr n (from p))).bin ≡ true
  unfolding answer_of right_point stretches_from In
  next_right p n h = go (drop (n / per_entry) (from p)) refl
    where
      go : (l : List Entry) → drop (n / per_entry) (from p) ≡ l
          → right_point nb nr (next (answer nr (length (fitting n (from p))) l)).ray (next (answer nr (length (fitting n (from p))) l)).bin ≡ true
      go [] u = rw (eq-eqb nr nr refl) (or-true (ltb nr nr && ltb 0 nb))
      go (e ∷ es) u =
          let i : In e (from p) = in_drop (n / per_entry) (from p) e (rw u (inl refl)) in
          let s = (is_list sc (levels v xs) nb h nr).only e (past_in nb (p.ray * nb + p.bin) whole e i).0 in
          rw (lt-ltb e.ray nr s.in_rays, lt-ltb e.first nb (omega (arith, s.in_ray, s.some)))
