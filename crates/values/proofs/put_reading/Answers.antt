-- The row of numbers, as far as there are any, lies where the row of marks does.
use native.Mathlib.Omega.{arith}
use Rattle.values.proofs.Ray.{numbered_within}
use Rattle.values.proofs.put_reading.Goals as goal

pub stamp-requires-2 : goal.stamp-requires-2
stamp-requires-2 c = let w = numbered_within c.args.reading c.args.lo c.args.hi c.requires.0 in
    (omega (arith, w.0, c.numbered_to.ensures), omega (arith, w.1, c.numbered_to.ensures, c.requires.2))
