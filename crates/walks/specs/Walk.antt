-- The walk's own state, for the contracts of its functions. No part of what a reader must believe: `walk` promises a verdict.
use Rattle.std.specs.Prelude.{ℕ, ◌+◌, ◌≤◌, ◌≡◌, List, cond, length, eqb, Err, None, Ok, Option, Result, Some, ⊤}
use Rattle.rules.specs.Fields.{length_at, number_at}
use Rattle.sections.specs.Checks.{FormatChecks, checks_at}
use Rattle.sections.specs.Ready.{Needs}
use Rattle.sections.specs.Verdict.{first_fault}
use Rattle.walks.specs.Places.{first_in, context_in}
use Rattle.sections.specs.declared.Cut.{Cut}
use Rattle.walks.specs.declared.State.{State}
use Rattle.sections.specs.declared.Refusal.{Refusal}

-- past a section of number n and length len
unfoldable pub past : State → ℕ → ℕ → State
past st n len =
    record {
      at = st.at + len;
      previous = n;
      cuts = cond (eqb n 7) (st.cuts + 1) st.cuts;
      first = cond (eqb n 4) (first_in st) st.first;
      section3 = cond (eqb n 3) st.at st.section3;
      section4 = cond (eqb n 4) st.at st.section4;
      section5 = cond (eqb n 5) st.at st.section5;
    }

-- the cut that a section 7 at the cursor ends
abbrev pub cut_ended : State → Cut
cut_ended st = record { section3 = st.section3; section4 = st.section4; section5 = st.section5; section7 = st.at }

-- the chosen cut, past a section of number n
abbrev pub chosen_after : ℕ → State → ℕ → Cut → Cut
chosen_after want st n chosen = cond (eqb n 7) (cond (eqb st.cuts want) (cut_ended st) chosen) chosen

-- the end lies in the file; before a section 7 all is ready for it; the count of cuts stays small
pub record Sound (Ready : Needs) (s : List ℕ) (end : ℕ) (st : State) : Type 0 where
  pub end_in : end ≤ length s
  pub ready : st.previous ≡ 6 → Ready s (context_in st)
  pub few : st.cuts ≤ st.at

abbrev pub step_from : List ℕ → ℕ → State → Result ⊤ Refusal → Result (Option State) Refusal
step_from s end st (Ok tt) = cond (eqb st.at end) (Ok None) (Ok (Some (past st (number_at s st.at) (length_at s st.at))))
step_from s end st (Err r) = Err r

-- one step of the walk, by a format's own checks
unfoldable pub step_of : FormatChecks → List ℕ → ℕ → State → Result (Option State) Refusal
step_of own s end st = step_from s end st (first_fault (checks_at own s end (context_in st) st.at))
