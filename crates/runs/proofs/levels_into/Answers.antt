-- `levels_into` meets its contract: the bins lie in the octets from the run on that holds bin a (Passed.antt).
use Prim.Native.Nat.{◌<◌}
use mathlib.Core.Path.{ap, ◌∙◌}
use mathlib.Core.List.{List}
use Prim.Native.Nat.{ℕ}
use native.Mathlib.Omega.{arith}
use borrow.Author.Tests.{le-leb}
use Rattle.lent.specs.Lent.{front}
use Rattle.runs.proofs.Passed.{passed_inside, passed_given, passed_bins}
use Rattle.runs.proofs.levels_into.Goals as goal

pub slice_bounds-levels_upto-count : goal.slice_bounds-levels_upto-count
slice_bounds-levels_upto-count c =
    let some : c.args.a < c.args.b = c.if-b-a.false in
    omega (arith, passed_inside c.args.v c.args.a c.args.b c.args.octets.now some c.requires.a_le_b.1 c.seek-hand.result c.seek-hand.ensures)

pub slice_bounds-levels_upto-start : goal.slice_bounds-levels_upto-start
slice_bounds-levels_upto-start c =
    let some : c.args.a < c.args.b = c.if-b-a.false in
    omega (arith, passed_inside c.args.v c.args.a c.args.b c.args.octets.now some c.requires.a_le_b.1 c.seek-hand.result c.seek-hand.ensures)

pub returns : goal.returns
returns c =
    let some : c.args.a < c.args.b = c.if-b-a.false in
    c.levels_upto.ensures.out_after (c.levels_upto.ensures.value ∙ le-leb _ _ (passed_given c.args.v c.args.a c.args.b c.args.octets.now some c.requires.a_le_b.1 c.seek-hand.result c.seek-hand.ensures))
    ∙ ap (λ (l : List ℕ). front l c.args.out.now) (passed_bins c.args.v c.args.a c.args.b c.args.octets.now some c.requires.a_le_b.1 c.seek-hand.result c.seek-hand.ensures)
