-- FORMAT.md, "Sections": the rules on the named fields of each section, in its order and with its numbers.
use Rattle.std.specs.Prelude.{ℕ, ◌+◌, ◌-◌, ◌%◌, List, [], ◌∷◌, Bool, true, ◌&&◌, ◌||◌, leb}
use Rattle.octets.specs.Octets.{be, sign_bit}

-- what the `w` octets from octet `k` of the section at place `at` write; octets count from 1 inside a section
unfoldable pub field : List ℕ → ℕ → ℕ → ℕ → ℕ
field s at k w = be s (at + k - 1) w

-- a rule on a section's octets
pub data Rule : Type 0 where
  -- the `w` octets from octet `k` write a number from `lo` to `hi`
  within : ℕ → ℕ → ℕ → ℕ → Rule
  -- they write, as sign and magnitude, a number of magnitude at most `m`
  magnitude : ℕ → ℕ → ℕ → Rule
  -- one of two rules
  either : Rule → Rule → Rule

-- the `w` octets from octet `k` write `v`
abbrev pub is : ℕ → ℕ → ℕ → Rule
is k w v = within k w v v

unfoldable pub meets : List ℕ → ℕ → Rule → Bool
meets s at (within k w lo hi) = leb lo (field s at k w) && leb (field s at k w) hi
meets s at (magnitude k w m) = leb (field s at k w % sign_bit w) m
meets s at (either a b) = meets s at a || meets s at b

unfoldable pub meets_all : List ℕ → ℕ → List Rule → Bool
meets_all s at [] = true
meets_all s at (r ∷ rs) = meets s at r && meets_all s at rs

-- 0, of a lent file of `n` octets: 1-4 `GRIB`; 7 is 0; 8 is 2; 9-16 total length, equal to the lent length
unfoldable pub rules0 : ℕ → List Rule
rules0 n = is 1 4 0x47524942 ∷ is 7 1 0 ∷ is 8 1 2 ∷ is 9 8 n ∷ []

-- 1: 6-7 is 34; 8-9 is 0; 12 is 3; 13-14 year; 15 month; 16 day; 17 hour; 18 and 19 minute, second; 20 is 0; 21 is 7
unfoldable pub rules1 : List Rule
rules1 =
    is 6 2 34
    ∷ is 8 2 0
    ∷ is 12 1 3
    ∷ within 13 2 1000 9999
    ∷ within 15 1 1 12
    ∷ within 16 1 1 31
    ∷ within 17 1 0 23
    ∷ within 18 1 0 59
    ∷ within 19 1 0 59
    ∷ is 20 1 0
    ∷ is 21 1 7
    ∷ []

-- 3, of a grid template, up to octet 34: 6, 11, 12 are 0; 13-14 the template's number; 15-18 Nb; 19-22 Nr; 23-26 latitude; 27-30 longitude;
-- 31-34 Dx, not 0 (7-10, a point count, is no named field)
abbrev pub grid_rules : ℕ → List Rule
grid_rules template =
    is 6 1 0
    ∷ is 11 1 0
    ∷ is 12 1 0
    ∷ is 13 2 template
    ∷ within 15 4 1 2048
    ∷ within 19 4 1 1024
    ∷ magnitude 23 4 90000000
    ∷ within 27 4 0 360000000
    ∷ within 31 4 1 0xFFFFFFFF
    ∷ []

-- an octet that is 0, 1, 2 or 255
abbrev pub mode_rule : ℕ → Rule
mode_rule k = either (within k 1 0 2) (is k 1 255)

-- 6: 6 is 255
unfoldable pub rules6 : List Rule
rules6 = is 6 1 255 ∷ []

-- 8: `7777`
unfoldable pub rules8 : List Rule
rules8 = is 1 4 0x37373737 ∷ []
