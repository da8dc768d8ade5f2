use Prim.Native.Nat.{◌-◌, ◌*◌, ◌≤◌}
use mathlib.Core.Path.{◌≡◌}
use lib.ListN.{length, get_or}
use Rattle.sums.proofs.Counting.{Counted}
use Rattle.sums.proofs.count_front.Given as goal

abbrev pub invariant-loop-sum : goal.invariant-loop-sum
invariant-loop-sum l = (length l.row ≡ 257) × (get_or l.row 256 0 ≡ 0) × (l.sum ≤ 65535) × (1 ≤ l.weight) × (l.weight ≤ 534773760) × (l.bins ≤ 65535 * l.weight) × Counted l.v l.octets l.whole.octets l.row l.sum l.weight l.bins

abbrev pub decreases-loop-sum : goal.decreases-loop-sum
decreases-loop-sum l = 534773760 - l.weight
