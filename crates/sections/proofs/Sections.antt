-- One section of the verdict's recursion, by what the checks come to; and what goes on from there, in two forms: the sections passed up to a place
-- (`Passed`), and those from a place on to the end (`Rest`).
use Prim.Native.Nat.{ℕ, zero, suc, ◌+◌, ◌≤◌, ◌<◌}
use mathlib.Core.Path.{◌≡◌, refl, sym, ◌∙◌, ap}
use mathlib.Core.List.{List, [], ◌∷◌, ◌++◌}
use mathlib.Core.Bool.{Bool, true, false, cond}
use native.Mathlib.Omega.{arith}
use borrow.Author.Tests.{eqb-true, eqb-false, eq-eqb, ne_eqb}
use lib.ListN.{length, length-append}
use lib.Dec.{eqb}
use Rattle.rules.specs.Fields.{length_at}
use Rattle.sections.specs.Checks.{FormatChecks, checks_at}
use Rattle.sections.specs.History.{Seen, seen_at, last_seen, cuts_seen, context_of, cuts_of}
use Rattle.sections.specs.Verdict.{accepted, refused, first_fault, if_accepted, sections}
use Rattle.sections.specs.Refused.{AllHold, FirstFails, Passed, first, then}
use Rattle.sections.specs.declared.Cut.{Cut}
use Rattle.sections.specs.declared.Refusal.{Refusal}
use Rattle.sections.specs.Refusal.{refuse}
use Rattle.sections.specs.declared.Why.TheVariants.{Frame}
use Rattle.sections.proofs.Framed.{Framed}
use Rattle.sections.proofs.Faults.{fine_all, all_fine, wrong_first, first_wrong, fine_framed}
use Rattle.std.specs.Prelude.{Err, Ok, Result, ⊤}

-- what the checks at a place come to
abbrev pub judged_at : FormatChecks → List ℕ → ℕ → List Seen → ℕ → Result ⊤ Refusal
judged_at own s end seen at = first_fault (checks_at own s end (context_of seen at) at)

module _ (own : FormatChecks) (f : ℕ) (s : List ℕ) (end : ℕ) (seen : List Seen) (at : ℕ) where
  pub sections_refused : (r : Refusal) → judged_at own s end seen at ≡ Err r → sections own (suc f) s end seen at ≡ refused r
  unfolding sections
  sections_refused r h =
      ap
      (λ (j : Result ⊤ Refusal). if_accepted j (cond (eqb at end) (accepted (cuts_of seen)) (sections own f s end (seen_at s at ∷ seen) (at + length_at s at))))
      h

  pub sections_done : judged_at own s end seen at ≡ (Ok tt) → at ≡ end → sections own (suc f) s end seen at ≡ accepted (cuts_of seen)
  unfolding sections
  sections_done h e =
      ap
      (λ (j : Result ⊤ Refusal). if_accepted j (cond (eqb at end) (accepted (cuts_of seen)) (sections own f s end (seen_at s at ∷ seen) (at + length_at s at))))
      h
      ∙ rw (eq-eqb at end e)

  pub sections_next : judged_at own s end seen at ≡ (Ok tt) → (at ≡ end → ⊥)
      → sections own (suc f) s end seen at ≡ sections own f s end (seen_at s at ∷ seen) (at + length_at s at)
  unfolding sections
  sections_next h ne =
      ap
      (λ (j : Result ⊤ Refusal). if_accepted j (cond (eqb at end) (accepted (cuts_of seen)) (sections own f s end (seen_at s at ∷ seen) (at + length_at s at))))
      h
      ∙ rw (ne_eqb at end ne)

pub no_fuel : (own : FormatChecks) (s : List ℕ) (end : ℕ) (seen : List Seen) (at : ℕ) → sections own zero s end seen at ≡ refused (refuse Frame at)
unfolding sections
no_fuel own s end seen at = refl

-- ── the sections from a place on, to the end ──

pub data Rest (own : FormatChecks) (s : List ℕ) (end : ℕ) : List Seen → ℕ → List Seen → Type 0 where
  stop : {seen : List Seen} {at : ℕ} → at ≡ end → AllHold (checks_at own s end (context_of seen at) at) → Rest own s end seen at seen
  step : {seen all : List Seen} {at : ℕ}
      → (at ≡ end → ⊥) → AllHold (checks_at own s end (context_of seen at) at)
      → Rest own s end (seen_at s at ∷ seen) (at + length_at s at) all → Rest own s end seen at all

-- all of them pass: the cuts are those of the whole history
pub record Through (own : FormatChecks) (s : List ℕ) (end : ℕ) (seen : List Seen) (at : ℕ) (cs : List Cut) : Type 0 where
  pub all : List Seen
  pub rest : Rest own s end seen at all
  pub cuts : cs ≡ cuts_of all

-- one of them is refused, at a place up to which all pass
pub record Stopped (own : FormatChecks) (s : List ℕ) (end : ℕ) (seen : List Seen) (at : ℕ) (r : Refusal) : Type 0 where
  pub before : List Seen
  pub place : ℕ
  pub passed : Passed own s end seen at → Passed own s end before place
  pub fails : FirstFails r (checks_at own s end (context_of before place) place)

pub refused_not_accepted : (r : Refusal) (cs : List Cut) → refused r ≡ accepted cs → ⊥
refused_not_accepted r cs h = let z : ◌≡◌ {A = ℕ} 0 1 = cc in omega arith

pub accepted_same : (cs ds : List Cut) → accepted cs ≡ accepted ds → cs ≡ ds
accepted_same cs ds h = cc

pub refused_same : (q r : Refusal) → refused q ≡ refused r → q ≡ r
refused_same q r h = cc

-- ── accepted: the sections from here on all pass ──

through_by : (own : FormatChecks) (f : ℕ) (s : List ℕ) (end : ℕ) (seen : List Seen) (at : ℕ) (cs : List Cut)
    → (sections own f s end (seen_at s at ∷ seen) (at + length_at s at) ≡ accepted cs → Through own s end (seen_at s at ∷ seen) (at + length_at s at) cs)
    → (j : Result ⊤ Refusal) (t : Bool) → judged_at own s end seen at ≡ j → eqb at end ≡ t
    → sections own (suc f) s end seen at ≡ accepted cs → Through own s end seen at cs
through_by own f s end seen at cs go (Err r) t e p h =
    absurd (refused_not_accepted r cs (sym (sections_refused own f s end seen at r e) ∙ h))
through_by own f s end seen at cs go (Ok tt) true e p h =
    let there : at ≡ end = eqb-true _ _ p in
    record {
      all = seen;
      rest = stop there (fine_all (checks_at own s end (context_of seen at) at) e);
      cuts = sym (accepted_same (cuts_of seen) cs (sym (sections_done own f s end seen at e there) ∙ h));
    }
through_by own f s end seen at cs go (Ok tt) false e p h =
    let ne : at ≡ end → ⊥ = eqb-false _ _ p in
    let t = go (sym (sections_next own f s end seen at e ne) ∙ h) in
    record { all = t.all; rest = step ne (fine_all (checks_at own s end (context_of seen at) at) e) t.rest; cuts = t.cuts }

pub through : (own : FormatChecks) (f : ℕ) (s : List ℕ) (end : ℕ) (seen : List Seen) (at : ℕ) (cs : List Cut) → sections own f s end seen at ≡ accepted cs → Through own s end seen at cs
through own zero s end seen at cs h = absurd (refused_not_accepted (refuse Frame at) cs (sym (no_fuel own s end seen at) ∙ h))
through own (suc f) s end seen at cs h =
    through_by own f s end seen at cs (through own f s end (seen_at s at ∷ seen) (at + length_at s at) cs) (judged_at own s end seen at) (eqb at end) refl refl h

-- and back, where there are steps enough
pub accepts : (own : FormatChecks) (s : List ℕ) (end : ℕ) (seen : List Seen) (at : ℕ) (all : List Seen) (f : ℕ)
    → Rest own s end seen at all → at ≤ end → end ≤ length s → length s < at + f → sections own f s end seen at ≡ accepted (cuts_of all)
accepts own s end seen at all zero (stop e h) le in-s few = absurd (omega arith)
accepts own s end seen at all zero (step ne h r) le in-s few = absurd (omega arith)
accepts own s end seen at all (suc f) (stop e h) le in-s few =
    sections_done own f s end seen at (all_fine (checks_at own s end (context_of seen at) at) h) e
accepts own s end seen at all (suc f) (step ne h r) le in-s few =
    let fine = all_fine (checks_at own s end (context_of seen at) at) h in
    let fr = fine_framed own s end (context_of seen at) at ne fine in
    let long : 5 ≤ length_at s at = fr.long in
    let reach : at + length_at s at ≤ end = fr.reach in
    sections_next own f s end seen at fine ne
    ∙ accepts own s end (seen_at s at ∷ seen) (at + length_at s at) all f r reach in-s (omega arith)

-- ── refused: one of them is the first that fails ──

stopped_by : (own : FormatChecks) (f : ℕ) (s : List ℕ) (end : ℕ) (seen : List Seen) (at : ℕ) (r : Refusal)
    → (Framed s end (context_of seen at) at → sections own f s end (seen_at s at ∷ seen) (at + length_at s at) ≡ refused r
    → Stopped own s end (seen_at s at ∷ seen) (at + length_at s at) r)
    → (j : Result ⊤ Refusal) (t : Bool) → judged_at own s end seen at ≡ j → eqb at end ≡ t
    → sections own (suc f) s end seen at ≡ refused r → Stopped own s end seen at r
stopped_by own f s end seen at r go (Err q) t e p h =
    let same : q ≡ r = refused_same q r (sym (sections_refused own f s end seen at q e) ∙ h) in
    record {
      before = seen;
      place = at;
      passed = λ x. x;
      fails = wrong_first (checks_at own s end (context_of seen at) at) r (e ∙ ap Err same);
    }
stopped_by own f s end seen at r go (Ok tt) true e p h =
    absurd (refused_not_accepted r (cuts_of seen) (sym h ∙ sections_done own f s end seen at e (eqb-true _ _ p)))
stopped_by own f s end seen at r go (Ok tt) false e p h =
    let ne : at ≡ end → ⊥ = eqb-false _ _ p in
    let st = go (fine_framed own s end (context_of seen at) at ne e) (sym (sections_next own f s end seen at e ne) ∙ h) in
    record {
      before = st.before;
      place = st.place;
      passed = λ x. st.passed (then x ne (fine_all (checks_at own s end (context_of seen at) at) e));
      fails = st.fails;
    }

pub stopped : (own : FormatChecks) (f : ℕ) (s : List ℕ) (end : ℕ) (seen : List Seen) (at : ℕ) (r : Refusal) → at ≤ end → end ≤ length s → length s < at + f
    → sections own f s end seen at ≡ refused r → Stopped own s end seen at r
stopped own zero s end seen at r le in-s few h = absurd (omega arith)
stopped own (suc f) s end seen at r le in-s few h =
    stopped_by own f s end seen at r
    (λ fr.
    let long : 5 ≤ length_at s at = fr.long in
    stopped own f s end (seen_at s at ∷ seen) (at + length_at s at) r fr.reach in-s (omega arith))
    (judged_at own s end seen at) (eqb at end) refl refl h

-- and back: a place up to which all pass is one that the verdict comes to
pub record Reached (own : FormatChecks) (s : List ℕ) (end : ℕ) (seen : List Seen) (at : ℕ) : Type 0 where
  pub fuel : ℕ
  pub same : sections own (length s) s end [] 16 ≡ sections own fuel s end seen at
  pub enough : length s < at + fuel
  pub inside : at ≤ end

reached_on : (own : FormatChecks) (s : List ℕ) (end : ℕ) (seen : List Seen) (at f : ℕ) → (at ≡ end → ⊥) → AllHold (checks_at own s end (context_of seen at) at) → at ≤ end
    → end ≤ length s → length s < at + f → sections own (length s) s end [] 16 ≡ sections own f s end seen at
    → Reached own s end (seen_at s at ∷ seen) (at + length_at s at)
reached_on own s end seen at zero ne h le in-s few same = absurd (omega arith)
reached_on own s end seen at (suc f) ne h le in-s few same =
    let fine = all_fine (checks_at own s end (context_of seen at) at) h in
    let fr = fine_framed own s end (context_of seen at) at ne fine in
    let long : 5 ≤ length_at s at = fr.long in
    record { fuel = f; same = same ∙ sections_next own f s end seen at fine ne; enough = omega arith; inside = fr.reach }

pub reached : (own : FormatChecks) (s : List ℕ) (end : ℕ) (seen : List Seen) (at : ℕ) → 16 ≤ end → end ≤ length s → Passed own s end seen at → Reached own s end seen at
reached own s end seen at h in-s first = record { fuel = length s; same = refl; enough = omega arith; inside = h }
reached own s end seen at h in-s (then {seen = old} {at = a} p ne ok) =
    let r = reached own s end old a h in-s p in
    reached_on own s end old a r.fuel ne ok r.inside in-s r.enough r.same

refuses_by : (own : FormatChecks) (s : List ℕ) (end : ℕ) (seen : List Seen) (at : ℕ) (r : Refusal) (f : ℕ) → at ≤ end → end ≤ length s → length s < at + f
    → judged_at own s end seen at ≡ Err r → sections own f s end seen at ≡ refused r
refuses_by own s end seen at r zero le in-s few h = absurd (omega arith)
refuses_by own s end seen at r (suc f) le in-s few h = sections_refused own f s end seen at r h

pub refuses : (own : FormatChecks) (s : List ℕ) (end : ℕ) (seen : List Seen) (at : ℕ) (r : Refusal) → 16 ≤ end → end ≤ length s → Passed own s end seen at
    → FirstFails r (checks_at own s end (context_of seen at) at) → sections own (length s) s end [] 16 ≡ refused r
refuses own s end seen at r h in-s p fails =
    let x = reached own s end seen at h in-s p in
    x.same ∙ refuses_by own s end seen at r x.fuel x.inside in-s x.enough (first_wrong (checks_at own s end (context_of seen at) at) r fails)

-- the cuts of a history, counted
pub count_cuts : (seen : List Seen) → cuts_seen seen ≡ length (cuts_of seen)
unfolding cuts_seen cuts_of
count_cuts [] = refl
count_cuts (x ∷ xs) = go (eqb x.number 7) (count_cuts xs)
  where
    go : (t : Bool) → cuts_seen xs ≡ length (cuts_of xs)
        → cond t (cuts_seen xs + 1) (cuts_seen xs)
        ≡ length (cond t (cuts_of xs ++ (record { section3 = last_seen 3 xs; section4 = last_seen 4 xs; section5 = last_seen 5 xs; section7 = x.place } ∷ [])) (cuts_of xs))
    go true e = rw length-append (omega arith)
    go false e = e
