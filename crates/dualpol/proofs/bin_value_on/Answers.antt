-- By what the call asks of the cut (`calls` Judging.antt).
use Rattle.octets.proofs.Exits.{passed_on}
use mathlib.Core.Path.{sym, ◌∙◌, ap}
use mathlib.Core.Bool.{true}
use borrow.Author.Tests.{ltb-true}
use Rattle.rules.proofs.Chains.{and_true_both}
use Rattle.calls.proofs.Judging.{judged_bad, judged_fine}
use Rattle.dualpol.specs.Answers.{bin_on}
use Rattle.dualpol.proofs.Answering.{right_is}
use Rattle.dualpol.proofs.bin_value_on.Goals as goal
use Rattle.std.specs.Prelude.{Err, Ok}

pub returns-in_err-judge_bin : goal.returns-in_err-judge_bin
unfolding bin_on
returns-in_err-judge_bin c =
    rw (passed_on _ _ c.from_residual.ensures.1) (record { exact = sym (judged_bad Err c.args.c true _ _ _ _ (sym c.judge_bin.ensures ∙ c.in_err-judge_bin.was)); near = tt })

pub told_in-requires : goal.told_in-requires
told_in-requires c =
    let h = and_true_both _ _ (judged_fine _ _ (sym c.judge_bin.ensures ∙ c.in_ok-judge_bin.was)).0 in
    (c.requires, ltb-true _ _ h.0, ltb-true _ _ h.1)

pub returns : goal.returns
unfolding bin_on
returns c =
    let h = judged_fine _ _ (sym c.judge_bin.ensures ∙ c.in_ok-judge_bin.was) in record { exact = rw h.0 (ap Ok c.told_in.ensures.exact); near = (right_is c.args.file.now c.args.c c.args.ray c.args.bin c.told_in.result c.told_in.ensures.near) }
