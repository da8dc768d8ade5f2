-- FORMAT.md, "Dual-polarisation files": the fields that other sections and the calls go by, each by the place of its section.
use Rattle.std.specs.Prelude.{ℕ, ◌+◌, ◌*◌, ◌/◌, List}
use Rattle.rules.specs.Rules.{field}
use Rattle.rules.specs.Fields.{rays_at}

-- a section of n octets with two lists of two octets for each ray, each there where its flag is 1: the flags as read in octets k and l of the section at
-- `at`
unfoldable pub with_lists : ℕ → ℕ → ℕ → List ℕ → ℕ → ℕ → ℕ
with_lists n k l s at rays = n + 2 * (field s at k 1 + field s at l 1) * rays

-- "58 + 2(Fa+Fe)Nr octets"
abbrev pub length3 : List ℕ → ℕ → ℕ
length3 s at = with_lists 58 53 54 s at (rays_at s at)

-- "at least 61 + 2(Fp+Ft)Nr"
abbrev pub least4 : List ℕ → ℕ → ℕ → ℕ
least4 s at rays = with_lists 61 56 57 s at rays

-- section 4: the site number
unfoldable pub site_at : List ℕ → ℕ → ℕ
site_at s at = field s at 28 2

-- section 5: R as its four octets, E, D, and how many bits to a cell
unfoldable pub reference_at : List ℕ → ℕ → ℕ
reference_at s at = field s at 12 4

unfoldable pub binary_scale_at : List ℕ → ℕ → ℕ
binary_scale_at s at = field s at 16 2

unfoldable pub decimal_scale_at : List ℕ → ℕ → ℕ
decimal_scale_at s at = field s at 18 2

unfoldable pub width_at : List ℕ → ℕ → ℕ
width_at s at = field s at 20 1

-- "5 + Nb x Nr x width/8"
unfoldable pub length7 : ℕ → ℕ → ℕ
length7 points width = 5 + points * width / 8
