-- Section 5's value table, octet for octet (FORMAT.md, "Sections" and "Numbers in a file").
use Rattle.std.specs.Prelude.{ℕ, suc, ◌+◌, ◌/◌, ◌%◌, Bool, List, [], ◌∷◌, ℤ, pos, negsuc}
use Rattle.octets.specs.Octets.{same}
use Rattle.values.specs.Published.{table_of}
use Rattle.values.specs.declared.Product.{Product}

-- a value in 16 bits, sign and magnitude: -5 is 0x8005, and zero is 0x0000 (0x8000 is no published value's)
unfoldable pub sign_magnitude : ℤ → ℕ
sign_magnitude (pos n) = n
sign_magnitude (negsuc k) = 32768 + suc k

-- values in two octets each, most significant first
unfoldable pub octets_of : List ℤ → List ℕ
unfolding sign_magnitude
octets_of [] = []
octets_of (z ∷ zs) = sign_magnitude z / 256 ∷ sign_magnitude z % 256 ∷ octets_of zs

-- the table's octets: levels 1 to M, level n's value at octets 16+2n to 17+2n of section 5
unfoldable pub table_octets : Product → List ℕ
unfolding octets_of table_of
table_octets p = octets_of (table_of p)

-- section 5's octets from 18 on are the published table's, octet for octet
unfoldable pub table_right : List ℕ → Product → Bool
unfolding table_octets same
table_right octets p = same octets (table_octets p)
