-- The first check that fails, said as facts: none where all hold, and else that one. Then what the checks at a place are.
use Prim.Native.Nat.{ℕ}
use mathlib.Core.Path.{◌≡◌, refl, subst}
use mathlib.Core.List.{List, [], ◌∷◌}
use mathlib.Core.Bool.{true, false}
use native.Mathlib.Omega.{arith}
use borrow.Author.Tests.{eq-eqb, ne_eqb}
use Rattle.rules.specs.Fields.{number_at}
use Rattle.sections.specs.Checks.{Check, check, FormatChecks, framed, room_for_cut, closes, section_checks, checks_at}
use Rattle.sections.specs.declared.Context.{Context}
use Rattle.sections.specs.Verdict.{first_fault}
use Rattle.sections.specs.Refused.{AllHold, FirstFails, this, later}
use Rattle.sections.specs.declared.Refusal.{Refusal}
use Rattle.sections.specs.Refusal.{refuse}
use Rattle.sections.specs.declared.Why.TheVariants.{Frame, CutCount}
use Rattle.sections.proofs.Framed.{Framed, framed_is}
use Rattle.std.specs.Prelude.{Err, Ok}

pub fine_all : (cs : List Check) → first_fault cs ≡ (Ok tt) → AllHold cs
fine_all [] h = tt
fine_all (check r true ∷ cs) h = (refl, fine_all cs h)
fine_all (check r false ∷ cs) h = let z : ◌≡◌ {A = ℕ} 0 1 = cc in absurd (omega arith)

pub all_fine : (cs : List Check) → AllHold cs → first_fault cs ≡ (Ok tt)
all_fine [] h = refl
all_fine (check r ok ∷ cs) h = rw h.0 (all_fine cs h.1)

pub wrong_first : (cs : List Check) (r : Refusal) → first_fault cs ≡ Err r → FirstFails r cs
wrong_first [] r h = let z : ◌≡◌ {A = ℕ} 0 1 = cc in absurd (omega arith)
wrong_first (check q true ∷ cs) r h = later refl (wrong_first cs r h)
wrong_first (check q false ∷ cs) r h =
    let e : q ≡ r = cc in
    subst (λ (x : Refusal). FirstFails x (check q false ∷ cs)) e (this refl)

wrong_at : (r : Refusal) (cs : List Check) → FirstFails r cs → first_fault cs ≡ Err r
wrong_at r cs (this e) = rw e
wrong_at r cs (later {cs = ds} e f) = rw e (wrong_at r ds f)

pub first_wrong : (cs : List Check) (r : Refusal) → FirstFails r cs → first_fault cs ≡ Err r
first_wrong cs r f = wrong_at r cs f

-- what holds where the checks of a section hold
pub record Clean (own : FormatChecks) (s : List ℕ) (end : ℕ) (x : Context) (at : ℕ) : Type 0 where
  pub frame : framed s end x at ≡ true
  pub roomy : room_for_cut s x at ≡ true
  pub its_own : AllHold (section_checks own s x at (number_at s at))

module _ (own : FormatChecks) (s : List ℕ) (end : ℕ) (x : Context) (at : ℕ) where
  pub checks_here : (at ≡ end → ⊥)
      → checks_at own s end x at
      ≡ (check (refuse Frame at) (framed s end x at) ∷ check (refuse CutCount at) (room_for_cut s x at) ∷ section_checks own s x at (number_at s at))
  unfolding checks_at
  checks_here ne = rw (ne_eqb at end ne)

  pub checks_end : at ≡ end → checks_at own s end x at ≡ (check (refuse Frame at) (closes s x at) ∷ [])
  unfolding checks_at
  checks_end e = rw (eq-eqb at end e)

  pub clean : (at ≡ end → ⊥) → AllHold (checks_at own s end x at) → Clean own s end x at
  clean ne h =
      let p = subst AllHold (checks_here ne) h in
      record { frame = p.0; roomy = p.1.0; its_own = p.1.1 }

  pub cleaned : (at ≡ end → ⊥) → Clean own s end x at → AllHold (checks_at own s end x at)
  cleaned ne k = rw (checks_here ne) (k.frame, (k.roomy, k.its_own))

  pub fine_framed : (at ≡ end → ⊥) → first_fault (checks_at own s end x at) ≡ (Ok tt) → Framed s end x at
  fine_framed ne h = framed_is s end x at (clean ne (fine_all (checks_at own s end x at) h)).frame
