use Prim.Native.Nat.{◌-◌, ◌*◌, ◌≤◌}
use mathlib.Core.Path.{◌≡◌}
use lib.ListN.{length, drop}
use Rattle.runs.specs.Inner.{cut_step}
use Rattle.runs.proofs.Steps.{go_on}
use Rattle.runs.proofs.run_upto.Given as goal
use Rattle.std.specs.Prelude.{Some}

abbrev pub invariant-loop-i : goal.invariant-loop-i
invariant-loop-i l = (l.i ≤ length l.octets) × (l.len ≤ l.left) × (l.weight ≤ 1099511627775 * 255) × (go_on l.v l.left (Some (record { level = l.level; len = l.left; next = l.at })) l.level l.len l.weight l.i (drop l.i l.octets) ≡ cut_step l.v l.left l.octets l.at)

abbrev pub decreases-loop-i : goal.decreases-loop-i
decreases-loop-i l = length l.octets - l.i
