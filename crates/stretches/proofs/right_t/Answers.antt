-- By the two tests.
use mir.Syntax.{w32}
use mir.ValLaws.{to_z-of_z}
use Rattle.stretches.specs.Call.{right_t}
use Rattle.stretches.proofs.right_t.Goals as goal

pub returns-then-t-ltminus32767 : goal.returns-then-t-ltminus32767
unfolding right_t
returns-then-t-ltminus32767 c = let e = rw (to_z-of_z w32 c.args.t c.ranges.t) at c.if-t-ltminus32767.true in rw e

pub returns-then-t-gt32767 : goal.returns-then-t-gt32767
unfolding right_t
returns-then-t-gt32767 c = let e = rw (to_z-of_z w32 c.args.t c.ranges.t) at c.if-t-ltminus32767.false in
    let f = rw (to_z-of_z w32 c.args.t c.ranges.t) at c.if-t-gt32767.true in rw (e, f)

pub returns-else-t-gt32767 : goal.returns-else-t-gt32767
unfolding right_t
returns-else-t-gt32767 c = let e = rw (to_z-of_z w32 c.args.t c.ranges.t) at c.if-t-ltminus32767.false in
    let f = rw (to_z-of_z w32 c.args.t c.ranges.t) at c.if-t-gt32767.false in rw (e, f)
