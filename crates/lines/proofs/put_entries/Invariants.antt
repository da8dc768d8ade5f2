-- What is still to be put, and what the lines still to be put would make of the octets, against the whole.
use Prim.Native.Nat.{◌+◌, ◌-◌, ◌*◌, ◌≤◌}
use mathlib.Core.Path.{◌≡◌}
use lib.ListN.{length}
use Rattle.lent.specs.Lent.{placed}
use Rattle.lines.specs.Rooms.{entry_room}
use Rattle.lines.specs.Text.{entry_lines}
use Rattle.lines.specs.Words.{entries_in}
use Rattle.lines.proofs.put_entries.Given as goal

abbrev pub invariant-loop-i : goal.invariant-loop-i
invariant-loop-i l =
    (l.i ≤ l.first + l.count) × (l.to + entry_room * (l.first + l.count - l.i) ≤ l.at + entry_room * l.count) × (length l.out ≡ length l.initial.out)
    × (placed l.out l.to (entry_lines (entries_in l.words l.i (l.first + l.count - l.i))) ≡ placed l.initial.out l.at (entry_lines (entries_in l.words l.first l.count)))
    × (l.to + length (entry_lines (entries_in l.words l.i (l.first + l.count - l.i))) ≡ l.at + length (entry_lines (entries_in l.words l.first l.count)))
