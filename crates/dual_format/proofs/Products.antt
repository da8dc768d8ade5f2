-- The products by which lengths are worked out are small; and the lists' length is read in the part of the file that begins with the section.
use Prim.Native.Nat.{ℕ, ◌+◌, ◌*◌, ◌-◌, ◌≤◌}
use mathlib.Core.Path.{◌≡◌}
use mathlib.Core.List.{List}
use native.Mathlib.Nat.{mul-le-mul}
use native.Mathlib.Omega.{arith}
use lib.ListN.{length, take, drop}
use Rattle.rules.proofs.Moved.{part_field}
use Rattle.dual_format.specs.Fields.{with_lists}

-- two lists of two octets for each of Nr rays, whatever octets the flags and Nr hold
pub lists_small : (a b : ℕ) → a ≤ 1020 → b ≤ 4294967295 → a * b ≤ 4380866640900
lists_small a b h k = mul-le-mul h k

-- Nb x Nr cells of a width
pub cells_small : (a b : ℕ) → a ≤ 2097152 → b ≤ 255 → a * b ≤ 534773760
cells_small a b h k = mul-le-mul h k

pub part_lists : (s : List ℕ) (at to : ℕ) → to ≤ length s → (n k l rays : ℕ) → 1 ≤ k → at + k ≤ to → 1 ≤ l → at + l ≤ to
    → with_lists n k l (take (to - at) (drop at s)) 0 rays ≡ with_lists n k l s at rays
unfolding with_lists
part_lists s at to inside n k l rays one le first upto =
    let a = part_field s at to inside k 1 one (omega arith) in
    let b = part_field s at to inside l 1 first (omega arith) in
    λ i. n + 2 * (a i + b i) * rays
