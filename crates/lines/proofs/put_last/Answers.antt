-- `put_last` meets its contract: the number under its name, and the end of the line.
use Rattle.lent.proofs.Putting.{then}
use Rattle.lines.proofs.put_last.Goals as goal

pub returns : goal.returns
returns c = then c.put_named-a.ensures.put c.put_octets.ensures
