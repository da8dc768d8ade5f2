-- FORMAT.md, "Sections": the parts of a file that are judged octet for octet, and what a cut is made of.
use Rattle.std.specs.Prelude.{ℕ, ◌+◌, ◌*◌, ◌-◌, List, cond, eqb, take, drop, get_or}
use Rattle.rules.specs.Fields.{length_at, parameter_at}
use Rattle.base_format.specs.Fields.{greatest_at}
use Rattle.runs.specs.Run.{levels}
use Rattle.values.specs.declared.Product.{Product}
use Rattle.values.specs.declared.Product.TheVariants.{Reflectivity, Velocity}
use Rattle.sections.specs.Parts.{bins_in}
use Rattle.sections.specs.declared.Cut.{Cut}

-- parameter 1 is base reflectivity, 2 Doppler velocity
unfoldable pub product_of : ℕ → Product
product_of n = cond (eqb n 1) Reflectivity Velocity

-- and back, where a product is told as a number
abbrev pub product_number : Product → ℕ
product_number Reflectivity = 1
product_number Velocity = 2

-- section 5: level n's value at 16+2n to 17+2n, so the values are its octets from 18 on
unfoldable pub table_at : List ℕ → ℕ → List ℕ
table_at s at = take (length_at s at - 17) (drop (at + 17) s)

-- section 7: data from 6
unfoldable pub data_at : List ℕ → ℕ → List ℕ
data_at s at = take (length_at s at - 5) (drop (at + 5) s)

-- a cut of a file, by the places of its sections: its product, V and levels
unfoldable pub product_in : List ℕ → Cut → Product
product_in s c = product_of (parameter_at s c.section4)

unfoldable pub greatest_in : List ℕ → Cut → ℕ
greatest_in s c = greatest_at s c.section5

unfoldable pub levels_in : List ℕ → Cut → List ℕ
levels_in s c = levels (greatest_in s c) (data_at s c.section7)

-- "Run-length rule": bin b of ray r is level r x Nb + b
unfoldable pub level_in : List ℕ → Cut → ℕ → ℕ → ℕ
level_in s c r b = get_or (levels_in s c) (r * bins_in s c + b) 0
