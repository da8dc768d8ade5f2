-- The examples marked P of FORMAT.md, "Checked examples", of published values and of runs, as one table under one statement.
use Prim.Native.Nat.{ℕ}
use mathlib.Core.Path.{◌≡◌, refl}
use mathlib.Core.List.{List, [], ◌∷◌}
use lib.IntN.{ℤ, pos, negsuc}
use lib.ListN.{replicate}
use Rattle.runs.specs.Run.{digit_sum, levels}
use Rattle.values.specs.Published.{published}
use Rattle.values.specs.Table.{sign_magnitude}
use Rattle.values.specs.declared.Product.{Product}
use Rattle.values.specs.declared.Product.TheVariants.{Reflectivity, Velocity}

-- a level's value; a level's two octets in section 5; under V, octets that are n times one level
pub data Example : Type 0 where
  value : Product → ℕ → ℤ → Example
  pair : Product → ℕ → ℕ → Example
  run : ℕ → List ℕ → ℕ → ℕ → Example

abbrev pub Holds : Example → Type 0
Holds (value p l z) = published p l ≡ z
Holds (pair p l n) = sign_magnitude (published p l) ≡ n
Holds (run v s n l) = levels v s ≡ replicate n l

abbrev pub All : List Example → Type 0
All [] = Unit {0}
All (e ∷ es) = Holds e × All es

abbrev pub examples : List Example
examples =
    value Reflectivity 2 (pos 16)
    ∷ value Reflectivity 3 (pos 48)
    ∷ value Reflectivity 252 (pos 8016)
    ∷ value Velocity 218 (pos 5450)
    ∷ value Velocity 219 (negsuc 5449)
    ∷ value Velocity 220 (pos 5513)
    ∷ value Velocity 222 (pos 5600)
    ∷ value Velocity 251 (negsuc 6999)
    ∷ pair Velocity 251 0x9b58
    ∷ run 10 (3 ∷ 11 ∷ []) 1 3
    ∷ run 10 (3 ∷ 255 ∷ []) 245 3
    ∷ run 10 (3 ∷ 11 ∷ 12 ∷ []) 246 3
    ∷ run 252 (7 ∷ 255 ∷ 255 ∷ []) 9 7
    ∷ run 252 (7 ∷ 253 ∷ 253 ∷ 254 ∷ []) 10 7
    ∷ []

pub shown : All examples
unfolding published sign_magnitude digit_sum levels
shown = (refl, (refl, (refl, (refl, (refl, (refl, (refl, (refl, (refl, (refl, (refl, (refl, (refl, (refl, tt))))))))))))))
