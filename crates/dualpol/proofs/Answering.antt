-- What is right of a cell is right of the answer that it makes.
use Prim.Native.Nat.{ℕ}
use mathlib.Core.Path.{◌≡◌, subst}
use mathlib.Core.List.{List}
use Rattle.scaled.specs.Scaled.{RightCell}
use Rattle.sections.specs.declared.Cut.{Cut}
use Rattle.dual_format.specs.Parts.{reference_in, binary_scale_in, decimal_scale_in, cell_in}
use Rattle.dualpol.specs.Answers.{RightIn}
use Rattle.std.specs.Prelude.{None, Option, Some, Float, Ok}

-- what is right of numbers that are read is right of the fields
pub right_at : (x : Option Float) {b b' z z' e e' d d' : ℕ} → b ≡ b' → z ≡ z' → e ≡ e' → d ≡ d' → RightCell x b z e d → RightCell x b' z' e' d'
right_at x {b} {b'} {z} {z'} {e} {e'} {d} {d'} p q r t h =
    subst (λ (y : ℕ). RightCell x b' z' e' y) t
    (subst (λ (y : ℕ). RightCell x b' z' y d) r (subst (λ (y : ℕ). RightCell x b' y e d) q (subst (λ (y : ℕ). RightCell x y z e d) p h)))

-- and a cell that tells the right number is answered by it
pub right_is : (s : List ℕ) (c : Cut) (ray bin : ℕ) (x : Option Float) → RightCell x (reference_in s c) (cell_in s c ray bin) (binary_scale_in s c) (decimal_scale_in s c)
    → RightIn s ray bin c (Ok x)
right_is s c ray bin None h = tt
right_is s c ray bin (Some y) h = h
