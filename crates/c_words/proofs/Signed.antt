-- A number of 32 bits or fewer goes out in a signed word of 64 as it is.
use Prim.Native.Nat.{ℕ, ◌<◌}
use mathlib.Core.Path.{◌≡◌}
use native.Mathlib.Omega.{arith}
use lib.IntN.{ℤ, pos}
use lib.Signed.{mag}
use mir.Syntax.{w32, w64}
use mir.Val.{SFits, of_z, to_z}
use mir.ValLaws.{to_z_pos, to_z-of_z}

pub unsigned_word : (n : ℕ) → n < 4294967296 → to_z w64 n ≡ pos n
unsigned_word n h = to_z_pos w64 n (omega arith)

module _ (z : ℤ) (h : mag z < 2147483648) where
  here : to_z w32 (of_z w32 z) ≡ z
  here = to_z-of_z w32 z (record { sfits = h })

  wide : SFits w64 z
  wide = record { sfits = omega arith }

  pub signed_fits : SFits w64 (to_z w32 (of_z w32 z))
  signed_fits = rw here wide

  pub signed_word : to_z w64 (of_z w64 (to_z w32 (of_z w32 z))) ≡ z
  signed_word = rw here (to_z-of_z w64 z wide)
