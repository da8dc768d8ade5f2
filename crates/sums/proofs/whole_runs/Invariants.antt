use Prim.Native.Nat.{◌+◌, ◌<◌}
use mathlib.Core.Path.{◌≡◌}
use lib.ListN.{length, get_or}
use Rattle.sums.specs.Inner.{total, alone, Laid}
use Rattle.sums.proofs.whole_runs.Given as goal

abbrev pub invariant-loop-e : goal.invariant-loop-e
invariant-loop-e l = (l.e < 256) × (length l.row ≡ 257) × (l.rest ≡ total (λ i. alone l.v (get_or l.octets i 0)) (l.e + 1)) × Laid l.v l.octets (l.e + 1) l.row

abbrev pub decreases-loop-e : goal.decreases-loop-e
decreases-loop-e l = l.e
