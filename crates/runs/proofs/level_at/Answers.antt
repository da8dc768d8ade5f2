-- `level_at` meets its contract: the run in hand holds the bin.
use mathlib.Core.Path.{sym}
use native.Mathlib.Omega.{arith}
use Rattle.runs.proofs.Here.{stands_holding, here_inside, here_level}
use Rattle.runs.proofs.level_at.Goals as goal

pub bounds-octets-at : goal.bounds-octets-at
bounds-octets-at c =
    here_inside c.args.v c.args.octets.now _ _ (stands_holding c.args.v c.args.octets.now c.args.a c.seek-hand.result c.seek-hand.ensures).0 (omega (arith, c.seek-hand.ensures.before, c.requires.a_in_bounds))

pub returns : goal.returns
returns c =
    let t = stands_holding c.args.v c.args.octets.now c.args.a c.seek-hand.result c.seek-hand.ensures in
    sym (here_level c.args.v c.args.octets.now _ _ t.0 (omega (arith, c.seek-hand.ensures.before, c.requires.a_in_bounds)) c.args.a c.seek-hand.ensures.before (omega (arith, c.seek-hand.ensures.inside, t.1)))
