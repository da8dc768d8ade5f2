-- The walk part-way: what the loop keeps true. The state mirrors the history of the sections seen, and the verdict from here on is the whole verdict.
use Prim.Native.Nat.{ℕ, zero, suc, ◌+◌, ◌≤◌, ◌<◌}
use mathlib.Core.Path.{◌≡◌, refl, sym, ◌∙◌, ap, subst}
use mathlib.Core.List.{List, [], ◌∷◌, ◌++◌}
use mathlib.Core.Bool.{Bool, true, false, cond}
use native.Mathlib.Omega.{arith}
use borrow.Author.Tests.{eqb-true, eqb-false, ltb-true, ltb-false, ne_eqb}
use lib.ListN.{length, get_or, length-append, get_or-append, get_or-eq_default}
use lib.Seq.{get_or_at}
use lib.Dec.{ltb, eqb}
use Rattle.rules.specs.Fields.{length_at, number_at}
use Rattle.sections.specs.Checks.{FormatChecks, checks_at}
use Rattle.sections.specs.declared.Context.{Context}
use Rattle.sections.specs.History.{Seen, seen_at, previous, last_seen, first_seen, cuts_of, cuts_seen, context_of}
use Rattle.sections.specs.Verdict.{accepted, refused, first_fault, sections, default_cut}
use Rattle.walks.specs.Answer.{answer_for}
use Rattle.walks.specs.Places.{context_in}
use Rattle.walks.specs.Walk.{past, cut_ended, chosen_after, step_from, step_of}
use Rattle.sections.specs.Refused.{Passed, first, then}
use Rattle.walks.specs.declared.State.{State}
use Rattle.sections.specs.declared.Cut.{Cut}
use Rattle.sections.specs.declared.Refusal.{Refusal}
use Rattle.sections.proofs.Faults.{fine_all, fine_framed}
use Rattle.sections.proofs.Sections.{judged_at, sections_refused, sections_done, sections_next, count_cuts}
use Rattle.std.specs.Prelude.{Err, None, Ok, Option, Result, Some, ⊤}

-- ── the state mirrors the history ──

pub record Mirrors (st : State) (seen : List Seen) : Type 0 where
  pub previous_is : st.previous ≡ previous seen
  pub cuts_is : st.cuts ≡ cuts_seen seen
  pub first_is : (d : ℕ) → first_seen 4 d seen ≡ cond (eqb st.first 0) d st.first
  pub section3_is : st.section3 ≡ last_seen 3 seen
  pub section4_is : st.section4 ≡ last_seen 4 seen
  pub section5_is : st.section5 ≡ last_seen 5 seen

pub context_same : (st : State) (seen : List Seen) → Mirrors st seen → context_in st ≡ context_of seen st.at
unfolding context_of
context_same st seen m =
    λ i.
    record {
      previous = m.previous_is i;
      cuts = m.cuts_is i;
      first = sym (m.first_is st.at) i;
      section3 = m.section3_is i;
      section4 = m.section4_is i;
      section5 = m.section5_is i;
    }

-- the first section 4's place is kept once there is one
first_on : (t u : Bool) (x at d : ℕ) → eqb x 0 ≡ u → 0 < at
    → cond u (cond t at d) x ≡ cond (eqb (cond t (cond u at x) x) 0) d (cond t (cond u at x) x)
first_on true true x at d e h = rw (ne_eqb at 0 (λ z. omega arith))
first_on true false x at d e h = rw e
first_on false true x at d e h = rw e
first_on false false x at d e h = rw e

pub mirrors_past : (st : State) (seen : List Seen) (n len : ℕ) → 0 < st.at → Mirrors st seen
    → Mirrors (past st n len) (record { number = n; place = st.at } ∷ seen)
unfolding past last_seen first_seen cuts_seen
mirrors_past st seen n len pos m =
    record {
      previous_is = refl;
      cuts_is = ap (λ (k : ℕ). cond (eqb n 7) (k + 1) k) m.cuts_is;
      first_is = λ d. m.first_is (cond (eqb n 4) st.at d) ∙ first_on (eqb n 4) (eqb st.first 0) st.first st.at d refl pos;
      section3_is = ap (cond (eqb n 3) st.at) m.section3_is;
      section4_is = ap (cond (eqb n 4) st.at) m.section4_is;
      section5_is = ap (cond (eqb n 5) st.at) m.section5_is;
    }

pub mirrors_start : (st : State) → st.previous ≡ 0 → st.cuts ≡ 0 → st.first ≡ 0 → st.section3 ≡ 0 → st.section4 ≡ 0 → st.section5 ≡ 0
    → Mirrors st []
unfolding last_seen first_seen cuts_seen
mirrors_start st p c f a b d =
    record { previous_is = p; cuts_is = c; first_is = λ e. rw f; section3_is = a; section4_is = b; section5_is = d }

-- ── the cuts so far ──

-- the element at a place of a list with one more at its end
snoc_get_d : (cs : List Cut) (x d : Cut) (want : ℕ) → get_or (cs ++ (x ∷ [])) want d ≡ cond (eqb (length cs) want) x (get_or cs want d)
snoc_get_d cs x d want = go (eqb (length cs) want) (ltb want (length cs)) refl refl
  where
    go : (t u : Bool) → eqb (length cs) want ≡ t → ltb want (length cs) ≡ u → get_or (cs ++ (x ∷ [])) want d ≡ cond (eqb (length cs) want) x (get_or cs want d)
    go true u p q = rw p (get_or_at cs x [] d want (eqb-true _ _ p))
    go false true p q = rw p (get_or-append cs (x ∷ []) d want (ltb-true _ _ q))
    go false false p q =
        let far : length cs ≤ want = ltb-false _ _ q in
        let ne : length cs ≡ want → ⊥ = eqb-false _ _ p in
        let past_end : length (cs ++ (x ∷ [])) ≤ want = rw length-append (omega arith) in
        rw p (get_or-eq_default (cs ++ (x ∷ [])) d past_end ∙ sym (get_or-eq_default cs d far))

kept_past : (st : State) (seen : List Seen) (n want : ℕ) (chosen : Cut) → Mirrors st seen → chosen ≡ get_or (cuts_of seen) want default_cut
    → chosen_after want st n chosen ≡ get_or (cuts_of (record { number = n; place = st.at } ∷ seen)) want default_cut
unfolding cuts_of
kept_past st seen n want chosen m k = go (eqb n 7)
  where
    ended : cut_ended st ≡ record { section3 = last_seen 3 seen; section4 = last_seen 4 seen; section5 = last_seen 5 seen; section7 = st.at }
    ended = λ i. record { section3 = m.section3_is i; section4 = m.section4_is i; section5 = m.section5_is i; section7 = st.at }

    count : st.cuts ≡ length (cuts_of seen)
    count = m.cuts_is ∙ count_cuts seen

    go : (t : Bool) → cond t (cond (eqb st.cuts want) (cut_ended st) chosen) chosen
        ≡ get_or (cond t (cuts_of seen ++ (record { section3 = last_seen 3 seen; section4 = last_seen 4 seen; section5 = last_seen 5 seen; section7 = st.at } ∷ [])) (cuts_of seen)) want default_cut
    go true = rw (snoc_get_d (cuts_of seen), count, k) (ap (λ (c : Cut). cond (eqb (length (cuts_of seen)) want) c (get_or (cuts_of seen) want default_cut)) ended)
    go false = k

-- ── what a step that goes on says ──

pub record Went (own : FormatChecks) (s : List ℕ) (end : ℕ) (st next : State) : Type 0 where
  pub fine : first_fault (checks_at own s end (context_in st) st.at) ≡ (Ok tt)
  pub open_end : st.at ≡ end → ⊥
  pub moved : next ≡ past st (number_at s st.at) (length_at s st.at)

went_by : (own : FormatChecks) (s : List ℕ) (end : ℕ) (st next : State) (j : Result ⊤ Refusal) (t : Bool) → first_fault (checks_at own s end (context_in st) st.at) ≡ j → eqb st.at end ≡ t
    → step_from s end st j ≡ Ok (Some next) → Went own s end st next
went_by own s end st next (Ok tt) true e p h =
    let g : ◌≡◌ {A = Result (Option State) Refusal} (Ok None) (Ok (Some next)) = rw p at h in
    let z : ◌≡◌ {A = ℕ} 0 1 = cc in absurd (omega arith)
went_by own s end st next (Ok tt) false e p h =
    let g : ◌≡◌ {A = Result (Option State) Refusal} (Ok (Some (past st (number_at s st.at) (length_at s st.at)))) (Ok (Some next)) = rw p at h in
    record { fine = e; open_end = eqb-false _ _ p; moved = cc g }
went_by own s end st next (Err r) t e p h = let z : ◌≡◌ {A = ℕ} 0 1 = cc in absurd (omega arith)

pub went : (own : FormatChecks) (s : List ℕ) (end : ℕ) (st next : State) → step_of own s end st ≡ Ok (Some next) → Went own s end st next
unfolding step_of
went own s end st next h = went_by own s end st next (first_fault (checks_at own s end (context_in st) st.at)) (eqb st.at end) refl refl h

pub record Ended (own : FormatChecks) (s : List ℕ) (end : ℕ) (st : State) : Type 0 where
  pub fine : first_fault (checks_at own s end (context_in st) st.at) ≡ (Ok tt)
  pub there : st.at ≡ end

ended_by : (own : FormatChecks) (s : List ℕ) (end : ℕ) (st : State) (j : Result ⊤ Refusal) (t : Bool) → first_fault (checks_at own s end (context_in st) st.at) ≡ j → eqb st.at end ≡ t
    → step_from s end st j ≡ (Ok None) → Ended own s end st
ended_by own s end st (Ok tt) true e p h = record { fine = e; there = eqb-true _ _ p }
ended_by own s end st (Ok tt) false e p h =
    let g : ◌≡◌ {A = Result (Option State) Refusal} (Ok (Some (past st (number_at s st.at) (length_at s st.at)))) (Ok None) = rw p at h in
    let z : ◌≡◌ {A = ℕ} 0 1 = cc in absurd (omega arith)
ended_by own s end st (Err r) t e p h = let z : ◌≡◌ {A = ℕ} 0 1 = cc in absurd (omega arith)

refused_by : (s : List ℕ) (end : ℕ) (st : State) (r : Refusal) (j : Result ⊤ Refusal) (t : Bool) → eqb st.at end ≡ t
    → step_from s end st j ≡ Err r → j ≡ Err r
refused_by s end st r (Ok tt) true p h =
    let g : ◌≡◌ {A = Result (Option State) Refusal} (Ok None) (Err r) = rw p at h in
    let z : ◌≡◌ {A = ℕ} 0 1 = cc in absurd (omega arith)
refused_by s end st r (Ok tt) false p h =
    let g : ◌≡◌ {A = Result (Option State) Refusal} (Ok (Some (past st (number_at s st.at) (length_at s st.at)))) (Err r) = rw p at h in
    let z : ◌≡◌ {A = ℕ} 0 1 = cc in absurd (omega arith)
refused_by s end st r (Err q) t p h = cc h

-- the checks by the state are those by the history
same_checks : (own : FormatChecks) (s : List ℕ) (end : ℕ) (st : State) (seen : List Seen) (j : Result ⊤ Refusal) → Mirrors st seen
    → first_fault (checks_at own s end (context_in st) st.at) ≡ j → judged_at own s end seen st.at ≡ j
same_checks own s end st seen j m h =
    ap (λ (x : Context). first_fault (checks_at own s end x st.at)) (sym (context_same st seen m)) ∙ h

-- ── the loop's invariant ──

pub record Along (own : FormatChecks) (s : List ℕ) (end want : ℕ) (st : State) (chosen : Cut) : Type 0 where
  pub fuel : ℕ
  pub seen : List Seen
  pub same : sections own (length s) s end [] 16 ≡ sections own fuel s end seen st.at
  pub enough : length s < st.at + fuel
  pub later : 0 < st.at
  pub inside : st.at ≤ end
  pub end_in : end ≤ length s
  pub passed : Passed own s end seen st.at
  pub mirrors : Mirrors st seen
  pub few : st.cuts ≤ st.at
  pub kept : chosen ≡ get_or (cuts_of seen) want default_cut

few_past : (st : State) (n len : ℕ) → 5 ≤ len → st.cuts ≤ st.at → (past st n len).cuts ≤ (past st n len).at
unfolding past
few_past st n len l h = go (eqb n 7)
  where
    go : (t : Bool) → cond t (st.cuts + 1) st.cuts ≤ st.at + len
    go true = omega arith
    go false = omega arith

pub past_at : (st : State) (n len : ℕ) → (past st n len).at ≡ st.at + len
unfolding past
past_at st n len = refl

past_previous : (st : State) (n len : ℕ) → (past st n len).previous ≡ n
unfolding past
past_previous st n len = refl

module _ (own : FormatChecks) (s : List ℕ) (end want : ℕ) (st : State) (chosen : Cut) (a : Along own s end want st chosen) where
  go_next : (f : ℕ) → f ≡ a.fuel → first_fault (checks_at own s end (context_in st) st.at) ≡ (Ok tt) → (st.at ≡ end → ⊥)
      → Along own s end want (past st (number_at s st.at) (length_at s st.at)) (chosen_after want st (number_at s st.at) chosen)
  go_next zero e h ne =
      let inside = a.inside in
      let enough = a.enough in
      let end_in = a.end_in in
      absurd (omega arith)
  go_next (suc f) e h ne =
      let n = number_at s st.at in
      let len = length_at s st.at in
      let fr = fine_framed own s end (context_in st) st.at ne h in
      let long : 5 ≤ len = fr.long in
      let reach : st.at + len ≤ end = fr.reach in
      let at' = past_at st n len in
      let enough = a.enough in
      let later = a.later in
      let fine = same_checks own s end st a.seen (Ok tt) a.mirrors h in
      let there : sections own a.fuel s end a.seen st.at ≡ sections own f s end (seen_at s st.at ∷ a.seen) (st.at + len) =
      ap (λ (k : ℕ). sections own k s end a.seen st.at) (sym e) ∙ sections_next own f s end a.seen st.at fine ne in
      record {
        fuel = f;
        seen = seen_at s st.at ∷ a.seen;
        same = a.same ∙ there ∙ ap (λ (k : ℕ). sections own f s end (seen_at s st.at ∷ a.seen) k) (sym at');
        enough = omega arith;
        later = omega arith;
        inside = omega arith;
        end_in = a.end_in;
        passed = subst (Passed own s end (seen_at s st.at ∷ a.seen)) (sym at') (then a.passed ne (fine_all (checks_at own s end (context_of a.seen st.at) st.at) fine));
        mirrors = mirrors_past st a.seen n len later a.mirrors;
        few = few_past st n len long a.few;
        kept = kept_past st a.seen n want chosen a.mirrors a.kept;
      }

  go_done : (f : ℕ) → f ≡ a.fuel → Ended own s end st → sections own (length s) s end [] 16 ≡ accepted (cuts_of a.seen)
  go_done zero e d =
      let inside = a.inside in
      let enough = a.enough in
      let end_in = a.end_in in
      absurd (omega arith)
  go_done (suc f) e d =
      a.same
      ∙ ap (λ (k : ℕ). sections own k s end a.seen st.at) (sym e)
      ∙ sections_done own f s end a.seen st.at (same_checks own s end st a.seen (Ok tt) a.mirrors d.fine) d.there

  go_refused : (f : ℕ) (r : Refusal) → f ≡ a.fuel → first_fault (checks_at own s end (context_in st) st.at) ≡ Err r
      → sections own (length s) s end [] 16 ≡ refused r
  go_refused zero r e d =
      let inside = a.inside in
      let enough = a.enough in
      let end_in = a.end_in in
      absurd (omega arith)
  go_refused (suc f) r e d =
      a.same
      ∙ ap (λ (k : ℕ). sections own k s end a.seen st.at) (sym e)
      ∙ sections_refused own f s end a.seen st.at r (same_checks own s end st a.seen (Err r) a.mirrors d)

  pub along_next : (next : State) → step_of own s end st ≡ Ok (Some next) → Along own s end want next (chosen_after want st next.previous chosen)
  along_next next h =
      let w = went own s end st next h in
      let n = number_at s st.at in
      let len = length_at s st.at in
      subst (λ (y : State). Along own s end want y (chosen_after want st y.previous chosen)) (sym w.moved)
      (subst (λ (k : ℕ). Along own s end want (past st n len) (chosen_after want st k chosen)) (sym (past_previous st n len))
      (go_next a.fuel refl w.fine w.open_end))

  pub along_done : step_of own s end st ≡ (Ok None) → Ok (record { cuts = st.cuts; cut = chosen }) ≡ answer_for want (sections own (length s) s end [] 16)
  unfolding answer_for step_of
  along_done h =
      let d = ended_by own s end st (first_fault (checks_at own s end (context_in st) st.at)) (eqb st.at end) refl refl h in
      rw (go_done a.fuel refl d, a.mirrors.cuts_is, count_cuts a.seen, a.kept)

  pub along_refused : (r : Refusal) → step_of own s end st ≡ Err r → Err r ≡ answer_for want (sections own (length s) s end [] 16)
  unfolding answer_for step_of
  along_refused r h =
      rw (go_refused a.fuel r refl (refused_by s end st r (first_fault (checks_at own s end (context_in st) st.at)) (eqb st.at end) refl h))

  -- how far a step goes
  pub further : (next : State) → step_of own s end st ≡ Ok (Some next) → (st.at < next.at) × (next.at ≤ end)
  further next h =
      let w = went own s end st next h in
      let fr = fine_framed own s end (context_in st) st.at w.open_end w.fine in
      let long : 5 ≤ length_at s st.at = fr.long in
      let reach : st.at + length_at s st.at ≤ end = fr.reach in
      let e : next.at ≡ st.at + length_at s st.at = ap (λ (x : State). x.at) w.moved ∙ past_at st _ _ in
      omega arith

abbrev pub start : State
start = record { at = 16; previous = 0; cuts = 0; first = 0; section3 = 0; section4 = 0; section5 = 0 }

pub along_start : (own : FormatChecks) (s : List ℕ) (end want : ℕ) → 16 ≤ end → end + 4 ≤ length s → Along own s end want start default_cut
unfolding cuts_of
along_start own s end want h k =
    record {
      fuel = length s;
      seen = [];
      same = refl;
      enough = omega arith;
      later = omega arith;
      inside = h;
      end_in = omega arith;
      passed = first;
      mirrors = mirrors_start start refl refl refl refl refl refl;
      few = omega arith;
      kept = refl;
    }
