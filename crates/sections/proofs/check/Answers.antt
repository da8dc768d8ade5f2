-- By the test.
use mathlib.Core.Path.{ap}
use Rattle.std.specs.Prelude.{Err}
use Rattle.sections.proofs.check.Goals as goal

pub returns-else-ok : goal.returns-else-ok
returns-else-ok c = rw c.if-ok.false (ap Err c.refuse.ensures)
