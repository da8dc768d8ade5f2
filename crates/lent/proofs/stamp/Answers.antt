-- The row grows by a store a turn, the first ahead of the loop.
use Rattle.std.proofs.Common.{◌≡◌, ◌-◌, List, replicate, set, ap, ◌∙◌, arith, length-set}
use Rattle.lent.specs.Lent.{placed}
use Rattle.lent.proofs.Lent.{row_none, row_one, row_more, row_all}
use Rattle.lent.proofs.stamp.Goals as goal

pub loop-i-init : goal.loop-i-init
loop-i-init g c = row_one c.args.out.now c.args.lo c.args.x (omega arith)

pub loop-i-preserved : goal.loop-i-preserved
loop-i-preserved g c =
    let put = set c.args.out.now c.args.lo c.args.x in
    let size = length-set c.args.out.now c.args.lo c.args.x in
    ap (λ (l : List _). set l c.loop-i.i c.args.x) c.loop-i.invariant ∙ row_more put c.args.lo c.loop-i.i c.args.x (omega (arith, c.loop-i.auto.i)) (omega (arith, c.loop-i-test.true, c.requires.1, size))

pub returns-after-loop-i : goal.returns-after-loop-i
returns-after-loop-i g c =
    let put = set c.args.out.now c.args.lo c.args.x in
    let all : c.loop-i.i ≡ c.args.hi = omega (arith, c.loop-i-test.false, c.loop-i.auto.i-end, c.if-lo-hi.true) in
    c.loop-i.invariant ∙ ap (λ n. placed put c.args.lo (replicate (n - c.args.lo) c.args.x)) all ∙ row_all c.args.out.now c.args.lo c.args.hi c.args.x c.if-lo-hi.true

pub returns-else-lo-hi : goal.returns-else-lo-hi
returns-else-lo-hi g c = row_none c.args.out.now c.args.lo c.args.hi c.args.x c.if-lo-hi.false
