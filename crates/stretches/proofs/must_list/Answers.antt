-- A ray's bins in order are places in order.
use mathlib.Core.Path.{sym}
use Prim.Native.Nat.{◌*◌}
use Rattle.stretches.proofs.Laws.{hand_early, hand_in_ray}
use Rattle.stretches.proofs.must_list.Goals as goal

pub returns-then-ray-nb : goal.returns-then-ray-nb
returns-then-ray-nb c = sym (hand_early _ _ _ c.if-ray-nb.true)

pub returns : goal.returns
returns c = hand_in_ray c.args.from (c.args.ray * c.args.nb) c.args.first c.args.end c.if-ray-nb.false
