use Prim.Native.Nat.{ℕ, ◌+◌, ◌*◌, ◌≤◌, ◌<◌}
use mathlib.Core.Path.{◌≡◌}
use lib.ListN.{get_or}
use Rattle.sums.specs.Inner.{total, behind}
use Rattle.sums.proofs.shift.Given as goal

abbrev pub invariant-loop-j : goal.invariant-loop-j
invariant-loop-j l = (l.sum ≤ 255 * l.j)
    × (l.sum ≡ total (λ i. behind l.v (get_or l.octets i 0) (get_or l.initial.row (i + 1) 0)) l.j)
    × ((i : ℕ) → i < l.j → get_or l.row i 0 ≡ behind l.v (get_or l.octets i 0) (get_or l.initial.row (i + 1) 0))
    × ((i : ℕ) → l.j ≤ i → get_or l.row i 0 ≡ get_or l.initial.row i 0)
