use Prim.Native.Nat.{◌-◌, ◌*◌, ◌≤◌, ◌<◌}
use mathlib.Core.Path.{◌≡◌}
use lib.ListN.{length, get_or, drop}
use Rattle.scan.specs.Inner.{scanned}
use Rattle.scan.proofs.Scanning.{in_run, at_run}
use Rattle.scan.proofs.by_runs.Given as goal

abbrev pub invariant-digits : goal.invariant-digits
invariant-digits l = (l.i < length l.octets) × (l.initial.i ≤ l.i) × (l.left ≤ l.n) × (l.weight ≤ 2097152 * 255) × (l.o ≡ get_or l.octets l.i 0) × (in_run l.v l.left l.weight l.i (drop l.i l.octets) ≡ scanned l.v l.n l.octets)

abbrev pub decreases-digits : goal.decreases-digits
decreases-digits l = length l.octets - l.i

abbrev pub invariant-runs : goal.invariant-runs
invariant-runs l = (l.i < length l.octets) × (l.left ≤ l.n) × (l.o ≡ get_or l.octets l.i 0) × (at_run l.v l.left l.i (drop l.i l.octets) ≡ scanned l.v l.n l.octets)

abbrev pub decreases-runs : goal.decreases-runs
decreases-runs l = length l.octets - l.i
