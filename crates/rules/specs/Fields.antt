-- FORMAT.md, "Sections": the fields that other sections and the calls go by, each by the place of its section.
use Rattle.std.specs.Prelude.{ℕ, ◌*◌, List}
use Rattle.rules.specs.Rules.{field}

-- any section: octets 1-4 its length, octet 5 its number
unfoldable pub length_at : List ℕ → ℕ → ℕ
length_at s at = field s at 1 4

unfoldable pub number_at : List ℕ → ℕ → ℕ
number_at s at = field s at 5 1

-- section 3: Nb, Nr and their product
unfoldable pub bins_at : List ℕ → ℕ → ℕ
bins_at s at = field s at 15 4

unfoldable pub rays_at : List ℕ → ℕ → ℕ
rays_at s at = field s at 19 4

unfoldable pub points_at : List ℕ → ℕ → ℕ
points_at s at = bins_at s at * rays_at s at

-- section 4: the product's parameter
unfoldable pub parameter_at : List ℕ → ℕ → ℕ
parameter_at s at = field s at 11 1
