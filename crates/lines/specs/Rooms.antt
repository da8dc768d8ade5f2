-- How many octets a line may take.
use Rattle.std.specs.Prelude.{ℕ}

-- the line of an entry, three numbers of twenty digits among them, and any line
abbrev pub entry_room : ℕ
entry_room = 82

abbrev pub line_room : ℕ
line_room = 160
