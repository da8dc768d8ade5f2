-- `has_room` meets its contract: where there is room for the levels there is room for their octets.
use mathlib.Core.Path.{sym}
use native.Mathlib.Omega.{arith}
use lib.ListN.{length}
use borrow.Author.Tests.{le-leb}
use Rattle.packing.specs.Write.{written}
use Rattle.packing.proofs.Digits.{written_short}
use Rattle.packing.proofs.has_room.Goals as goal

pub returns-then-levels-room : goal.returns-then-levels-room
returns-then-levels-room c = sym (le-leb (length (written c.args.v c.args.levels.now)) c.args.room (omega (arith, written_short c.args.v c.args.levels.now)))
