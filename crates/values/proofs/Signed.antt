-- Signed numbers as the machine holds them: 16 bits widened to 32, and a test of two numbers of 32 bits.
use mathlib.Core.Path.{◌≡◌, ◌∙◌, ap, subst, sym}
use mathlib.Core.Bool.{Bool}
use lib.IntN.{ℤ}
use lib.Signed.{lt_z}
use mir.Syntax.{w16, w32}
use mir.Val.{SFits, to_z, of_z}
use mir.Facts.{to_z-of_z, sfits_widen}

-- a number of 16 bits, widened
abbrev pub wide : ℤ → ℤ
wide z = to_z w32 (of_z w32 (to_z w16 (of_z w16 z)))

pub wide_fits : (z : ℤ) → SFits w16 z → SFits w32 (to_z w16 (of_z w16 z))
wide_fits z f = subst (λ (x : ℤ). SFits w32 x) (sym (to_z-of_z f)) (sfits_widen tt f)

pub wide_is : (z : ℤ) → SFits w16 z → wide z ≡ z
wide_is z f = to_z-of_z (wide_fits z f) ∙ to_z-of_z f

-- a test `a < b`
pub test_is : (a b : ℤ) → SFits w32 a → SFits w32 b → (r : Bool) → lt_z (to_z w32 (of_z w32 a)) (to_z w32 (of_z w32 b)) ≡ r → lt_z a b ≡ r
test_is a b f g r h = ap (λ (z : ℤ). lt_z z b) (sym (to_z-of_z f)) ∙ ap (λ (z : ℤ). lt_z (to_z w32 (of_z w32 a)) z) (sym (to_z-of_z g)) ∙ h
