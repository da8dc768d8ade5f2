use Prim.Native.Nat.{ℕ, ◌-◌, ◌*◌, ◌≤◌, ◌<◌}
use mathlib.Core.Path.{◌≡◌}
use lib.ListN.{get_or}
use Rattle.sums.specs.Inner.{total, alone}
use Rattle.sums.proofs.lay.Given as goal

abbrev pub invariant-loop-i : goal.invariant-loop-i
invariant-loop-i l = (l.sum ≤ 255 * l.i) × (l.sum ≡ total (λ j. alone l.v (get_or l.octets j 0)) l.i) × ((j : ℕ) → j < l.i → get_or l.row j 0 ≡ get_or l.octets j 0 - l.v - 1)
