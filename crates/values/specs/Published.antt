-- The published values, in hundredths, by level (FORMAT.md, "Published values").
use Rattle.std.specs.Prelude.{ℕ, zero, suc, ◌+◌, ◌-◌, ◌*◌, ◌%◌, cond, List, [], ◌∷◌, leb, eqb, ℤ, pos, neg_ℤ}
use Rattle.values.specs.declared.Product.{Product}
use Rattle.values.specs.declared.Product.TheVariants.{Reflectivity, Velocity}

-- M, the number of levels above 0: 252 for parameter 1 and 251 for 2
unfoldable pub level_count : Product → ℕ
level_count Reflectivity = 252
level_count Velocity = 251

-- Reflectivity: level 1 is 0; level n from 2 to 252 is 16 + 32(n-2).
unfoldable pub reflectivity : ℕ → ℤ
reflectivity n = cond (eqb n 1) (pos 0) (pos (16 + 32 * (n - 2)))

-- Velocity at an even n: 25n to 218; 5513 at 220; 5600 + 50(n-222) from 222 to 250.
unfoldable pub velocity_even : ℕ → ℕ
velocity_even n = cond (leb n 218) (25 * n) (cond (eqb n 220) 5513 (5600 + 50 * (n - 222)))

-- Velocity: level 1 is 0; even n as above; odd n from 3 is minus the value of n-1.
unfoldable pub velocity : ℕ → ℤ
unfolding velocity_even
velocity n = cond (eqb n 1) (pos 0) (cond (eqb (n % 2) 0) (pos (velocity_even n)) (neg_ℤ (pos (velocity_even (n - 1)))))

-- the value of level n, from 1 to M. Level 0 has none: see Reading.antt
unfoldable pub published : Product → ℕ → ℤ
unfolding reflectivity velocity
published Reflectivity n = reflectivity n
published Velocity n = velocity n

-- k values of a rule, from level i on
unfoldable pub values_from : (ℕ → ℤ) → ℕ → ℕ → List ℤ
values_from f i zero = []
values_from f i (suc k) = f i ∷ values_from f (suc i) k

-- the published table: the values of levels 1 to M, in order
unfoldable pub table_of : Product → List ℤ
unfolding published level_count values_from
table_of p = values_from (published p) 1 (level_count p)
