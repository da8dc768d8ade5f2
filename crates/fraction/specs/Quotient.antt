-- A whole number taken over exactly into a 64-bit float and divided once (FORMAT.md, "Calls", Bin value).
use Rattle.std.specs.Prelude.{ℕ, ℤ, pos, Float}
use Rattle.std.specs.Float.{binary64}
use Rattle.std.specs.Float.Ieee.{div, of_int}

-- z / d by one division of floats
unfoldable pub quotient : ℤ → ℕ → Float
quotient z d = div binary64 (of_int binary64 z) (of_int binary64 (pos d))

-- a value in hundredths
unfoldable pub hundredths : ℤ → Float
unfolding quotient
hundredths z = quotient z 100
