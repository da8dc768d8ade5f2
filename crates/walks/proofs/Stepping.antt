-- One step of the walk, by what its checks come to.
use Prim.Native.Nat.{ℕ}
use mathlib.Core.Path.{◌≡◌, ◌∙◌, ap}
use mathlib.Core.List.{List}
use borrow.Author.Tests.{eq-eqb, ne_eqb}
use Rattle.rules.specs.Fields.{length_at, number_at}
use Rattle.sections.specs.Checks.{FormatChecks, checks_at}
use Rattle.sections.specs.Verdict.{first_fault}
use Rattle.walks.specs.Places.{context_in}
use Rattle.walks.specs.Walk.{past, step_from, step_of}
use Rattle.sections.specs.declared.Refusal.{Refusal}
use Rattle.walks.specs.declared.State.{State}
use Rattle.std.specs.Prelude.{Err, None, Ok, Some}

module _ (own : FormatChecks) (s : List ℕ) (end : ℕ) (st : State) where
  pub step_refused : (r : Refusal) → first_fault (checks_at own s end (context_in st) st.at) ≡ Err r → step_of own s end st ≡ Err r
  unfolding step_of
  step_refused r h = ap (step_from s end st) h

  pub step_done : first_fault (checks_at own s end (context_in st) st.at) ≡ (Ok tt) → st.at ≡ end → step_of own s end st ≡ (Ok None)
  unfolding step_of
  step_done h e = ap (step_from s end st) h ∙ rw (eq-eqb st.at end e)

  pub step_next : first_fault (checks_at own s end (context_in st) st.at) ≡ (Ok tt) → (st.at ≡ end → ⊥)
      → step_of own s end st ≡ Ok (Some (past st (number_at s st.at) (length_at s st.at)))
  unfolding step_of
  step_next h ne = ap (step_from s end st) h ∙ rw (ne_eqb st.at end ne)
