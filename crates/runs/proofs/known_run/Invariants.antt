use Prim.Native.Nat.{◌-◌, ◌*◌, ◌≤◌}
use lib.ListN.{length}
use Rattle.runs.proofs.Digits.{Still}
use Rattle.runs.proofs.known_run.Given as goal

abbrev pub invariant-loop-i : goal.invariant-loop-i
invariant-loop-i l = (l.i ≤ length l.octets) × (l.weight ≤ 2097152 * 255) × Still l.v l.octets l.at l.i l.len l.weight

abbrev pub decreases-loop-i : goal.decreases-loop-i
decreases-loop-i l = length l.octets - l.i
