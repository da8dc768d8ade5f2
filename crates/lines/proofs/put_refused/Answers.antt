-- `put_refused` meets its contract, piece by piece.
use Rattle.lines.specs.Text.{refused_line}
use Rattle.lent.proofs.Putting.{then}
use Rattle.lines.proofs.put_refused.Goals as goal

pub returns : goal.returns
unfolding refused_line
returns c = then c.put_named-a.ensures.put c.put_last.ensures
