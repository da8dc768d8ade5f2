-- How near a float is to a fraction of two whole numbers, said over whole numbers.
use Rattle.std.specs.Prelude.{◌≡◌, Bool, true, false, ℤ, pos, negsuc, nat_abs, ℕ, ◌+◌, ◌-◌, ◌*◌, ◌^◌, ◌≤◌, Float}
use Rattle.std.specs.Float.{nan, inf, fin}
use Rattle.std.specs.Float.Ieee.{up, down}

-- |a - b|
abbrev pub dist : ℕ → ℕ → ℕ
dist a b = (a - b) + (b - a)

-- x is finite with the sign s, and its size is within one part in 2 ^ p of a / d: with x = num / den in size,
-- |num * d - a * den| * 2 ^ p ≤ a * den. At a = 0 that says that x is zero.
abbrev pub Near : ℕ → Bool → Float → ℕ → ℕ → Type 0
Near p s nan a d = ⊥
Near p s (inf t) a d = ⊥
Near p s (fin t m e) a d = (t ≡ s) × (dist (m * up e * d) (a * down e) * 2 ^ p ≤ a * down e)

-- a whole number's sign
abbrev pub negative : ℤ → Bool
negative (pos n) = false
negative (negsuc n) = true

-- x is within one part in 2 ^ p of t / d, for a whole number t of either sign
abbrev pub NearZ : ℕ → Float → ℤ → ℕ → Type 0
NearZ p x t d = Near p (negative t) x (nat_abs t) d
