-- What the crate's own functions ask of each other and leave: no promise of a call cites these.
use Rattle.std.specs.Prelude.{ℕ, ◌-◌, ◌/◌, ◌%◌, ◌≤◌, ◌<◌, ◌≡◌, Bool, true, ◌&&◌, List, length, get_or, eqb, ℤ, pos}
use Rattle.kinds.specs.KindTable.{kind_number}
use Rattle.runs.specs.Run.{levels, opens}
use Rattle.values.specs.Published.{level_count}
use Rattle.values.specs.Reading.{reading_of, kind_of}
use Rattle.values.specs.Table.{sign_magnitude}
use Rattle.values.specs.declared.Product.{Product}
use Rattle.values.specs.declared.Reading.{Reading}
use Rattle.values.specs.declared.Reading.TheVariants.{Missing, Number}

-- the number that is stored, and where the places that get it end, of those from lo up to hi: for a missing reading there are none
unfoldable pub number_of : Reading → ℤ
number_of Missing = pos 0
number_of (Number z) = z

unfoldable pub numbered_to : Reading → ℕ → ℕ → ℕ
numbered_to Missing lo hi = lo
numbered_to (Number z) lo hi = hi

-- each value has a form in 16 bits, sign and magnitude
abbrev pub InTwoOctets : List ℤ → Type 0
InTwoOctets zs = (k : ℕ) → sign_magnitude (get_or zs k (pos 0)) < 65536

-- what reading the bins a up to b of the octets' levels asks: octets that open a run and give those bins, levels of the product, and room for the bins in
-- both buffers
pub record Bins (p : Product) (v a b : ℕ) (s : List ℕ) (marks values : ℕ) : Type 0 where
  pub low : v ≤ level_count p
  pub opened : opens v s ≡ true
  pub near : b ≤ 1099511627775
  pub order : a ≤ b
  pub given : b ≤ length (levels v s)
  pub room_marks : b - a ≤ marks
  pub room_values : b - a ≤ values

-- ks has the number of each level's kind at its place
abbrev pub KindsBy : Product → ℤ → List ℕ → Type 0
KindsBy p t ks = (l : ℕ) → l ≤ level_count p → get_or ks l 0 ≡ kind_number (kind_of (reading_of p l) t)

-- two octets, most significant first, write a value
unfoldable pub pair_right : ℕ → ℕ → ℤ → Bool
unfolding sign_magnitude
pair_right high low z = eqb high (sign_magnitude z / 256) && eqb low (sign_magnitude z % 256)
