use Prim.Native.Nat.{◌-◌, ◌≤◌}
use mathlib.Core.Path.{◌≡◌}
use lib.ListN.{length, drop}
use Rattle.scan.specs.Inner.{scanned, moved}
use Rattle.scan.proofs.by_blocks.Given as goal

abbrev pub invariant-loop-at : goal.invariant-loop-at
invariant-loop-at l = (length l.row ≡ 257) × (l.at ≤ length l.octets) × (l.left ≤ l.n) × (moved l.at (scanned l.v l.left (drop l.at l.octets)) ≡ scanned l.v l.n l.octets)

abbrev pub decreases-loop-at : goal.decreases-loop-at
decreases-loop-at l = length l.octets - l.at
