-- FORMAT.md, "To come", smaller file, on small cuts: bit i is for cut i; a section 3 is written for the first cut and wherever it differs from the last one written.
use Prim.Native.Nat.{ℕ}
use mathlib.Core.Path.{◌≡◌, refl}
use mathlib.Core.List.{[], ◌∷◌}
use Rattle.octets.specs.Octets.{in_octets, same}
use Rattle.files.specs.File.{Parts}
use Rattle.files.specs.Smaller.{chosen, cuts_after, assembled}

-- a cut with one octet for each section: its section 3, and the number of its section 4
abbrev cut : ℕ → ℕ → Parts
cut three four = record { three = three ∷ []; four = four ∷ []; five = 5 ∷ []; six = 6 ∷ []; seven = 7 ∷ [] }

pub record Examples : Type 0 where
  -- bits 0 and 2
  pub bits : chosen {A = ℕ} 5 (10 ∷ 11 ∷ 12 ∷ []) ≡ 10 ∷ 12 ∷ []
  -- under A, B, A: each is written
  pub three_grids : cuts_after [] (cut 0xA 40 ∷ cut 0xB 41 ∷ cut 0xA 42 ∷ []) ≡ 0xA ∷ 40 ∷ 5 ∷ 6 ∷ 7 ∷ 0xB ∷ 41 ∷ 5 ∷ 6 ∷ 7 ∷ 0xA ∷ 42 ∷ 5 ∷ 6 ∷ 7 ∷ []
  -- without the one under B: A is written once
  pub one_grid : cuts_after [] (chosen {A = Parts} 5 (cut 0xA 40 ∷ cut 0xB 41 ∷ cut 0xA 42 ∷ [])) ≡ 0xA ∷ 40 ∷ 5 ∷ 6 ∷ 7 ∷ 42 ∷ 5 ∷ 6 ∷ 7 ∷ []
  -- 700 octets
  pub total : in_octets 8 700 ≡ 0 ∷ 0 ∷ 0 ∷ 0 ∷ 0 ∷ 0 ∷ 2 ∷ 188 ∷ []
  -- the eight octets before the total stay; 16 + 1 + 2 + 4 octets in all
  pub whole : assembled (71 ∷ 82 ∷ 73 ∷ 66 ∷ 8 ∷ 9 ∷ 0 ∷ 2 ∷ 0 ∷ 0 ∷ 0 ∷ 0 ∷ 0 ∷ 0 ∷ 9 ∷ 9 ∷ []) (1 ∷ []) (3 ∷ 4 ∷ [])
      ≡ 71 ∷ 82 ∷ 73 ∷ 66 ∷ 8 ∷ 9 ∷ 0 ∷ 2 ∷ 0 ∷ 0 ∷ 0 ∷ 0 ∷ 0 ∷ 0 ∷ 0 ∷ 23 ∷ 1 ∷ 3 ∷ 4 ∷ 55 ∷ 55 ∷ 55 ∷ 55 ∷ []

pub examples : Examples
unfolding same in_octets
examples = record { bits = refl; three_grids = refl; one_grid = refl; total = refl; whole = refl }
