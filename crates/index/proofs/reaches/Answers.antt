-- `reaches` meets its contract: as long as bins are wanted, reading stands at the place in hand.
use mathlib.Core.Path.{sym, ◌∙◌}
use native.Mathlib.Omega.{arith}
use Rattle.runs.proofs.Upto.{upto_told, upto_ended}
use Rattle.index.proofs.reaches.Goals as goal

pub overflow_add-bins : goal.overflow_add-bins
overflow_add-bins c =
    let run = upto_told _ _ _ _ _ c.loop-run.invariant _ (sym c.in-Some.is ∙ c.run_upto.ensures) in
    record { fits = omega (arith, run.on.few, c.requires.1) }

pub loop-run-smaller : goal.loop-run-smaller
loop-run-smaller c =
    let run = upto_told _ _ _ _ _ c.loop-run.invariant _ (sym c.in-Some.is ∙ c.run_upto.ensures) in
    omega (arith, run.some, run.cut.wanted)

pub loop-run-preserved : goal.loop-run-preserved
loop-run-preserved c = (upto_told _ _ _ _ _ c.loop-run.invariant _ (sym c.in-Some.is ∙ c.run_upto.ensures)).on

pub returns : goal.returns
returns c = upto_ended c.args.v c.args.octets.now c.args.want c.loop-run.at c.loop-run.bins c.loop-run.invariant (sym c.in_default.is ∙ c.run_upto.ensures)
