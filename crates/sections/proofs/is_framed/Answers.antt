-- Where five octets are left, the other tests of the definition, on those five; else it is not framed.
use mathlib.Core.Path.{sym, ◌∙◌}
use Prim.Native.Nat.{◌+◌, ◌≤◌}
use native.Mathlib.Omega.{arith}
use lib.ListN.{length}
use borrow.Author.Tests.{leb-true, le-leb}
use Rattle.sections.specs.Checks.{framed}
use Rattle.rules.specs.Fields.{length_at, number_at}
use Rattle.rules.proofs.Moved.{part_field}
use Rattle.sections.proofs.is_framed.Goals as goal

pub overflow_add-head : goal.overflow_add-head
overflow_add-head c =
    let five : c.args.at + 5 ≤ c.args.end = leb-true _ _ (sym c.ends_by.ensures ∙ c.if-ends_by.true) in
    let f = five in record { fits = omega (arith, c.requires) }

pub slice_bounds-head-end : goal.slice_bounds-head-end
slice_bounds-head-end c =
    let five : c.args.at + 5 ≤ c.args.end = leb-true _ _ (sym c.ends_by.ensures ∙ c.if-ends_by.true) in
    let f = five in omega (arith, c.requires)

pub returns-then-ends_by : goal.returns-then-ends_by
unfolding framed length_at number_at
returns-then-ends_by c =
    let five : c.args.at + 5 ≤ c.args.end = leb-true _ _ (sym c.ends_by.ensures ∙ c.if-ends_by.true) in
    let f = five in
    let inside : c.args.at + 5 ≤ length c.args.s.now = omega (arith, c.requires) in
    let len = part_field c.args.s.now c.args.at (c.args.at + 5) inside 1 4 (omega arith) (omega arith) in
    let n = part_field c.args.s.now c.args.at (c.args.at + 5) inside 5 1 (omega arith) (omega arith) in
    rw (le-leb (c.args.at + 5) c.args.end f) (cc)

pub returns : goal.returns
unfolding framed
returns c = rw (sym c.ends_by.ensures ∙ c.if-ends_by.false)
