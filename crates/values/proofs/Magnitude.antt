-- Sign and magnitude of a number of 16 bits, as the machine works it out at 32: one law below zero, one from zero on.
use mathlib.Core.Path.{◌≡◌, refl, ◌∙◌, ap, subst, sym}
use mathlib.Core.Bool.{true, false}
use Prim.Native.Nat.{ℕ, suc, ◌+◌, ◌^◌, ◌≤◌, ◌<◌}
use native.Mathlib.Nat.{zero-add}
use native.Mathlib.Omega.{arith}
use lib.Dec.{T}
use lib.IntN.{ℤ, pos, negsuc, nat_abs, ◌-ℤ◌}
use lib.Signed.{lt_z, non_neg}
use mir.Syntax.{w16, w32}
use mir.Val.{SFits, Fits, to_z, of_z}
use mir.Facts.{to_z-of_z}
use borrow.Author.Tests.{ltb-true}
use Rattle.values.specs.Table.{sign_magnitude}
use Rattle.values.proofs.Signed.{wide, wide_is}

-- below zero
abbrev Low : ℤ → ℤ → Type 0
Low z w = SFits w32 (pos 0 -ℤ w) × (to_z w32 (of_z w32 (pos 0 -ℤ w)) ≡ pos (nat_abs z)) × (nat_abs z ≤ 2 ^ 15) × (32768 + nat_abs z ≡ sign_magnitude z)

low : (z : ℤ) → SFits w16 z → lt_z z (pos 0) ≡ true → Low z z
unfolding sign_magnitude
low (pos n) f t = absurd (none n (ltb-true n 0 t))
  where
    none : (n : ℕ) → n < 0 → ⊥
    none n h = omega arith
low (negsuc k) f t =
    let e : pos 0 -ℤ negsuc k ≡ pos (suc k) = ap pos (zero-add (suc k)) in
    let s : SFits w32 (pos (suc k)) = record { sfits = room k f.sfits } in
    let g : SFits w32 (pos 0 -ℤ negsuc k) = subst (λ (x : ℤ). SFits w32 x) (sym e) s in
    (g, to_z-of_z g ∙ e, bound k f.sfits, refl)
  where
    room : (k : ℕ) → k < 2 ^ 15 → suc k < 2 ^ 31
    room k h = omega arith

    bound : (k : ℕ) → k < 2 ^ 15 → suc k ≤ 2 ^ 15
    bound k h = omega arith

pub below : (z : ℤ) → SFits w16 z → lt_z (wide z) (pos 0) ≡ true → Low z (wide z)
below z f t = subst (λ (w : ℤ). Low z w) (sym (wide_is z f)) (low z f (ap (λ (w : ℤ). lt_z w (pos 0)) (sym (wide_is z f)) ∙ t))

-- zero and above
abbrev High : ℤ → ℤ → Type 0
High z w = T (non_neg w) × Fits w32 (nat_abs w) × (nat_abs w ≡ sign_magnitude z)

high : (z : ℤ) → SFits w16 z → lt_z z (pos 0) ≡ false → High z z
unfolding sign_magnitude
high (pos n) f t = (tt, record { fits = room n f.sfits }, refl)
  where
    room : (n : ℕ) → n < 2 ^ 15 → n < 2 ^ 32
    room n h = omega arith
high (negsuc k) f t = absurd (differ t)
  where
    differ : true ≡ false → ⊥
    differ e = let z : ◌≡◌ {A = ℕ} 0 1 = cc in omega arith

pub excess : (z : ℤ) → SFits w16 z → lt_z (wide z) (pos 0) ≡ false → High z (wide z)
excess z f t = subst (λ (w : ℤ). High z w) (sym (wide_is z f)) (high z f (ap (λ (w : ℤ). lt_z w (pos 0)) (sym (wide_is z f)) ∙ t))
