-- What a section 3, 4 or 5 is held to by its own checks stands through its cut: at each later section up to the next of its number. By going back along the
-- sections that have passed.
use Prim.Native.Nat.{ℕ, ◌≤◌}
use mathlib.Core.Path.{◌≡◌, refl, subst}
use mathlib.Core.List.{List}
use mathlib.Core.Bool.{Bool, true, false, cond}
use native.Mathlib.Omega.{arith}
use borrow.Author.Tests.{eqb-true, eqb-false, ne_eqb}
use lib.Dec.{eqb}
use Rattle.rules.specs.Fields.{number_at}
use Rattle.sections.specs.Checks.{FormatChecks, section_checks}
use Rattle.sections.specs.declared.Context.{Context}
use Rattle.sections.specs.History.{Seen, previous, last_seen, context_of}
use Rattle.sections.specs.Refused.{AllHold, Passed, first, then}
use Rattle.sections.proofs.Framed.{Framed, framed_is}
use Rattle.sections.proofs.Order.{past_number}
use Rattle.sections.proofs.Faults.{Clean, clean}

-- what section n of a format, once it passes, is held to
abbrev pub Holds : FormatChecks → List ℕ → ℕ → (ℕ → Type 0) → Type 0
Holds own s n P = (x : Context) (at : ℕ) → AllHold (own s x at n) → P at

module _ (own : FormatChecks) (s : List ℕ) (end n : ℕ) (some : 3 ≤ n) (few : n ≤ 5) (P : ℕ → Type 0) (holds : Holds own s n P) where
  own_of : (x : Context) (at m : ℕ) → m ≡ n → AllHold (section_checks own s x at m) → AllHold (own s x at n)
  unfolding section_checks
  own_of x at m e h = rw (ne_eqb n 1 (λ z. omega arith), ne_eqb n 6 (λ z. omega arith)) at (subst (λ (k : ℕ). AllHold (section_checks own s x at k)) e h)

  pub held : {seen : List Seen} {at : ℕ} → Passed own s end seen at → n ≤ previous seen → P (last_seen n seen)
  unfolding last_seen context_of
  held first le = absurd (omega arith)
  held (then {seen = old} {at = a} p ne h) le = go (λ old-le. held p old-le) (eqb (number_at s a) n) refl
    where
      k : Clean own s end (context_of old a) a
      k = clean own s end (context_of old a) a ne h

      fr : Framed s end (context_of old a) a
      fr = framed_is s end (context_of old a) a k.frame

      go : (n ≤ previous old → P (last_seen n old)) → (t : Bool) → eqb (number_at s a) n ≡ t → P (cond t a (last_seen n old))
      go before true e = holds (context_of old a) a (own_of (context_of old a) a (number_at s a) (eqb-true _ _ e) k.its_own)
      go before false e =
          let other : number_at s a ≡ n → ⊥ = eqb-false _ _ e in
          before (past_number n (previous old) (number_at s a) some (omega arith) fr.allowed (omega arith))
