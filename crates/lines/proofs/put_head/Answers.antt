-- `put_head` meets its contract, piece by piece.
use Rattle.lines.specs.Text.{head_line}
use Rattle.lent.proofs.Putting.{then}
use Rattle.lines.proofs.put_head.Goals as goal

pub returns : goal.returns
unfolding head_line
returns c =
    then c.put_named-a.ensures.put
    (then c.put_named-b.ensures.put (then c.put_named-c.ensures.put (then c.put_named-d.ensures.put c.put_last.ensures)))
