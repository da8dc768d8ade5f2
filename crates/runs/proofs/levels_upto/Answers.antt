-- `levels_upto` meets its contract: the bins of the runs read so far, from a on, are in front; as long as bins are wanted, reading stands at the place in hand.
use Prim.Native.Nat.{ℕ, ◌+◌, ◌-◌}
use mathlib.Core.Path.{◌≡◌, sym, ap, ◌∙◌}
use native.Mathlib.Omega.{arith}
use borrow.Author.Tests.{eqb-true}
use lib.ListN.{length, drop, replicate}
use Rattle.lent.specs.Lent.{placed, between, front}
use Rattle.lent.proofs.Lent.{painted, length_between, length_front}
use Rattle.runs.specs.Run.{levels, run_len}
use Rattle.runs.proofs.Here.{here_run}
use Rattle.runs.proofs.Upto.{upto_told, upto_ended}
use Rattle.runs.proofs.levels_upto.Goals as goal

pub overflow_add-to : goal.overflow_add-to
overflow_add-to c =
    let run = upto_told _ _ _ _ _ c.loop-run.invariant.0 _ (sym c.in-Some.is ∙ c.run_upto.ensures) in
    record { fits = omega (arith, run.on.few, c.requires.v_bound.1) }

pub stamp-requires : goal.stamp-requires
stamp-requires c =
    let size : length c.loop-run.out ≡ length c.args.out.now = ap length c.loop-run.invariant.1 ∙ length_front (between c.args.a c.loop-run.bins (levels c.args.v c.args.octets.now)) c.args.out.now (omega (arith, length_between (levels c.args.v c.args.octets.now) c.args.a c.loop-run.bins c.loop-run.invariant.0.within, c.loop-run.invariant.0.few, c.requires.a_le_b.1)) in
    let run = upto_told _ _ _ _ _ c.loop-run.invariant.0 _ (sym c.in-Some.is ∙ c.run_upto.ensures) in
    (omega (arith, c.excess.ensures, c.excess-in-Some.ensures, run.some), omega (arith, c.excess-in-Some.ensures, run.on.few, size, c.requires.a_le_b.1))

pub loop-run-smaller : goal.loop-run-smaller
loop-run-smaller c =
    let run = upto_told _ _ _ _ _ c.loop-run.invariant.0 _ (sym c.in-Some.is ∙ c.run_upto.ensures) in
    omega (arith, run.some, run.cut.wanted)

pub loop-run-preserved : goal.loop-run-preserved
loop-run-preserved c =
    let run = upto_told _ _ _ _ _ c.loop-run.invariant.0 _ (sym c.in-Some.is ∙ c.run_upto.ensures) in
    let len = run_len c.args.v c.args.octets.now c.loop-run.at in (
      run.on,
      c.stamp.ensures
          ∙ (λ i. placed (c.loop-run.invariant.1 i) (c.excess.ensures i) (replicate (c.excess-in-Some.ensures i - c.excess.ensures i) (run.cut.is i)))
          ∙ painted (levels c.args.v c.args.octets.now) (drop (c.loop-run.bins + len) (levels c.args.v c.args.octets.now)) c.args.out.now c.args.a c.loop-run.bins _ len _ (omega arith) (here_run c.args.v c.args.octets.now c.loop-run.at c.loop-run.bins run.stands run.more) (omega (arith, run.cut.size)) c.loop-run.invariant.0.within,
    )

pub returns : goal.returns
returns c = record { value = upto_ended c.args.v c.args.octets.now c.args.b c.loop-run.at c.loop-run.bins c.loop-run.invariant.0 (sym c.in_default.is ∙ c.run_upto.ensures); out_after = λ all. c.loop-run.invariant.1 ∙ ap (λ (n : ℕ). front (between c.args.a n (levels c.args.v c.args.octets.now)) c.args.out.now) (eqb-true c.loop-run.bins c.args.b all) }
