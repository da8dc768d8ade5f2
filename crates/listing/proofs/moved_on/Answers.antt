-- `moved_on` meets its contract: the next point, the next cut, or the end.
use native.Mathlib.Omega.{arith}
use Rattle.listing.proofs.Moving.{sum_few, to_list, to_head, to_end}
use Rattle.listing.proofs.moved_on.Goals as goal

pub overflow_add-total : goal.overflow_add-total
overflow_add-total c = record { fits = omega (arith, sum_few c.args.file.now c.args.part c.args.l c.requires) }

pub returns-then-l-rays_in : goal.returns-then-l-rays_in
returns-then-l-rays_in c = to_list c.args.file.now c.args.part c.args.l c.requires (rw (← c.rays_in.ensures) c.if-l-rays_in.true)

pub returns-then-number-part : goal.returns-then-number-part
returns-then-number-part c =
    to_head c.args.file.now c.args.part c.args.l c.requires (rw (← c.rays_in.ensures) c.if-l-rays_in.false) c.if-number-part.true c.next_cut-cut.result c.next_cut-cut.ensures
    c.cut_begun.result c.cut_begun.ensures

pub returns : goal.returns
returns c = to_end c.args.file.now c.args.part c.args.l c.requires (rw (← c.rays_in.ensures) c.if-l-rays_in.false) c.if-number-part.false
