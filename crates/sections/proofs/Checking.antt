-- A check and its `?`: where it fails its refusal is what the function answers, and past it it held.
use Rattle.std.specs.Prelude.{◌≡◌, ℕ, Bool, true, false, cond, Result, Ok, Err, ⊤, refl}
use Rattle.std.specs.Result.{IsErrAnd}
use native.Mathlib.Omega.{arith}
use mathlib.Core.Path.{◌∙◌, ap}
use Rattle.octets.proofs.Exits.{passed_on}
use Rattle.sections.specs.declared.Refusal.{Refusal}

module _ (ok : Bool) (r : Refusal) (found : Result ⊤ Refusal) (is : found ≡ cond ok (Ok tt) (Err r)) where
  refused : {e : Refusal} (b : Bool) → ok ≡ b → found ≡ Err e → (ok ≡ false) × (e ≡ r)
  refused true t w = absurd (let z : ◌≡◌ {A = ℕ} 0 1 = cc in omega arith)
  refused false t w = (t, cc)

  pub failed : {T : Type 0} {e : Refusal} (out : Result T Refusal) → found ≡ Err e → IsErrAnd out (λ y. y ≡ e) → (ok ≡ false) × (out ≡ Err r)
  failed out w left = let f = refused ok refl w in (f.0, passed_on out _ left ∙ ap Err f.1)

  passed : (b : Bool) → ok ≡ b → found ≡ Ok tt → ok ≡ true
  passed true t w = t
  passed false t w = absurd (let z : ◌≡◌ {A = ℕ} 0 1 = cc in omega arith)

  pub held : found ≡ Ok tt → ok ≡ true
  held w = passed ok refl w
