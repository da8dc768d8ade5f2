use mathlib.Core.Bool.{◌&&◌}
use mathlib.Core.Path.{◌≡◌}
use Prim.Native.Nat.{◌*◌, ◌≤◌}
use lib.ListN.{length, drop}
use Rattle.octets.specs.Octets.{same}
use Rattle.values.specs.Table.{octets_of}
use Rattle.values.proofs.right_in.Given as goal

abbrev pub invariant-loop-i : goal.invariant-loop-i
invariant-loop-i l = (l.i ≤ l.m) × (length l.octets ≡ 2 * length l.table) × (l.right && same (drop (2 * l.i) l.octets) (octets_of (drop l.i l.table)) ≡ same l.octets (octets_of l.table))
