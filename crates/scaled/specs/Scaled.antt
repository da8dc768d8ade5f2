-- Simple packing: what a cell of section 7 tells (FORMAT.md, "Dual-polarisation files", Cells), over whole numbers.
use Rattle.std.specs.Prelude.{◌≡◌, ◌⊎◌, Bool, true, false, not, cond, ℕ, ◌+◌, ◌-◌, ◌*◌, ◌/◌, ◌%◌, ◌^◌, ◌≤◌, eqb, leb, ℤ, pos, neg_ℤ, ◌+ℤ◌, Float, None, Option, Some}
use Rattle.std.specs.Float.{fin, binary32, binary64}
use Rattle.std.specs.Float.Ieee.{add, div, of_int, of_bits}
use Rattle.fraction.specs.Near.{NearZ}

-- the IEEE single, in four octets: seeeeeee emmmmmmm mmmmmmmm mmmmmmmm; s is 0 for positive, 1 for negative
abbrev pub negative_single : ℕ → Bool
negative_single b = leb 2147483648 b

abbrev pub exponent_of : ℕ → ℕ
exponent_of b = b % 2147483648 / 8388608

abbrev pub mantissa_of : ℕ → ℕ
mantissa_of b = b % 8388608

-- e is 0: (-1)^s × m × 2^-149
-- e is 1 to 254: (-1)^s × (1.0 + m × 2^-23) × 2^(e-127), which is (-1)^s × (2^23 + m) × 2^(e-1) × 2^-149
-- so R × 2^149 is a whole number: its size, and the number
unfoldable pub single_size : ℕ → ℕ
single_size b = cond (eqb (exponent_of b) 0) (mantissa_of b) ((8388608 + mantissa_of b) * 2 ^ (exponent_of b - 1))

unfoldable pub single_units : ℕ → ℤ
single_units b = cond (negative_single b) (neg_ℤ (pos (single_size b))) (pos (single_size b))

-- e is 255: infinite, or no number
abbrev pub finite_single : ℕ → Bool
finite_single b = not (eqb (exponent_of b) 255)

-- Y × 10^D = R + Z × 2^E: Y is top / bottom, both taken 2^149 times
unfoldable pub exact_numerator : ℕ → ℕ → ℕ → ℤ
exact_numerator b z e = single_units b +ℤ pos (z * 2 ^ e * 2 ^ 149)

unfoldable pub exact_denominator : ℕ → ℕ
exact_denominator d = 2 ^ 149 * 10 ^ d

-- y is within |Y| / 2^51 of Y, and zero where Y is 0
abbrev pub Right : Float → ℕ → ℕ → ℕ → ℕ → Type 0
Right y b z e d = NearZ 51 y (exact_numerator b z e) (exact_denominator d) × (exact_numerator b z e ≡ pos 0 → y ≡ fin false 0 (pos 0))

-- how y is worked out: R and Z × 2^E taken over exactly, one sum, one division
unfoldable pub scaled_value : ℕ → ℕ → ℕ → ℕ → Float
scaled_value b z e d = div binary64 (add binary64 (of_bits binary32 b) (of_int binary64 (pos (z * 2 ^ e)))) (of_int binary64 (pos (10 ^ d)))

-- all ones in a cell of `width` bits: no value
unfoldable pub cell_of : ℕ → ℕ → ℕ → ℕ → ℕ → Option Float
cell_of width b e d z = cond (eqb z (2 ^ width - 1)) None (Some (scaled_value b z e d))

-- a cell that tells a number tells the right one
abbrev pub RightCell : Option Float → ℕ → ℕ → ℕ → ℕ → Type 0
RightCell None b z e d = Unit {0}
RightCell (Some y) b z e d = Right y b z e d

-- what section 5 must hold: R finite, E 0 to 2, D 0 to 4, 8 or 16 bits to a cell
pub record Packing (b e d width : ℕ) : Type 0 where
  pub reference : finite_single b ≡ true
  pub binary_scale : e ≤ 2
  pub decimal_scale : d ≤ 4
  pub cells : (width ≡ 8) ⊎ (width ≡ 16)
