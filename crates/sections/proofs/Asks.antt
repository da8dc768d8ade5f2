-- What a check at a place asks, and what is said of the section's octets, both ways at once: one check after the other, where each may go by what the
-- ones before it have shown.
use Prim.Native.Nat.{ℕ, ◌≤◌}
use mathlib.Core.Path.{◌≡◌, sym, ◌∙◌}
use mathlib.Core.List.{List}
use mathlib.Core.Bool.{Bool, true}
use mathlib.Core.Logic.{◌↔◌}
use native.Mathlib.Omega.{arith}
use borrow.Author.Tests.{eqb-true, eq-eqb, leb-true, le-leb}
use lib.Dec.{eqb, leb}
use lib.ListN.{length}
use Rattle.rules.specs.Fields.{length_at}
use Rattle.sections.specs.Accepted.{section_at}
use Rattle.sections.proofs.There.{AllThere}

-- a check, and those after it
pub also : {A B C D : Type 0} → A ↔ C → (C → B ↔ D) → (A × B) ↔ (C × D)
also f g = ((λ h. let c = f.0 h.0 in (c, (g c).0 h.1)), (λ k. (f.1 k.0, (g k.0).1 k.1)))

-- a test that comes out alike
pub alike : {p q : Bool} → p ≡ q → (p ≡ true) ↔ (q ≡ true)
alike e = ((λ h. sym e ∙ h), (λ k. e ∙ k))

-- two numbers that are to be equal
pub equal : {a b c d : ℕ} → a ≡ c → b ≡ d → (eqb a b ≡ true) ↔ (c ≡ d)
equal e f = ((λ h. sym e ∙ eqb-true _ _ h ∙ f), (λ k. eq-eqb _ _ (e ∙ k ∙ sym f)))

-- a length that is due by what the section itself says, and m at least: by place and by octets the same of a section that has m octets
pub lengths : (s : List ℕ) (at : ℕ) → AllThere s at → (m due due' : ℕ) → m ≤ due → m ≤ due' → (m ≤ length (section_at s at) → due ≡ due')
    → (eqb (length_at s at) due ≡ true) ↔ (length (section_at s at) ≡ due')
lengths s at h m due due' le le' e = (
  (λ a. let l = eqb-true (length_at s at) due a in sym h ∙ l ∙ e (omega arith)),
  (λ k. eq-eqb _ _ (h ∙ k ∙ sym (e (omega arith)))),
)

-- the same of a least length
pub leasts : (s : List ℕ) (at : ℕ) → AllThere s at → (m due due' : ℕ) → m ≤ due → m ≤ due' → (m ≤ length (section_at s at) → due ≡ due')
    → (leb due (length_at s at) ≡ true) ↔ (due' ≤ length (section_at s at))
leasts s at h m due due' le le' e = (
  (λ a. let l = leb-true due (length_at s at) a in let d = e (omega arith) in omega arith),
  (λ k. let d = e (omega arith) in le-leb due (length_at s at) (omega arith)),
)

-- no check is left
pub done : Unit {0} ↔ Unit {0}
done = ((λ h. h), (λ k. k))

-- what a list of checks asks, under its names
pub named : {A B C : Type 0} → A ↔ B → (B → C) → (C → B) → A ↔ C
named p f g = ((λ h. f (p.0 h)), (λ k. p.1 (g k)))
