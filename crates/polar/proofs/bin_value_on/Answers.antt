-- By what the call asks of the cut (`calls` Judging.antt).
use Rattle.octets.proofs.Exits.{passed_on}
use mathlib.Core.Path.{sym, ◌∙◌, ap}
use mathlib.Core.Bool.{true}
use native.Mathlib.Omega.{arith}
use borrow.Author.Tests.{ltb-true}
use Rattle.rules.proofs.Chains.{and_true_both}
use Rattle.values.specs.Published.{level_count}
use Rattle.values.specs.Reading.{reading_of}
use Rattle.calls.proofs.Judging.{judged_bad, judged_fine}
use Rattle.polar.specs.Rays.{bin_of, bin_on}
use Rattle.polar.proofs.bin_value_on.Goals as goal
use Rattle.std.specs.Prelude.{Err, Ok}

pub returns-in_err-judge_bin : goal.returns-in_err-judge_bin
unfolding bin_on
returns-in_err-judge_bin c =
    passed_on _ _ c.from_residual.ensures.1 ∙ sym (judged_bad Err c.args.c true _ _ _ _ (sym c.judge_bin.ensures ∙ c.in_err-judge_bin.was))

pub level_in-level-requires : goal.level_in-level-requires
level_in-level-requires c =
    let h = and_true_both _ _ (judged_fine _ _ (sym c.judge_bin.ensures ∙ c.in_ok-judge_bin.was)).0 in record { good_cut = c.requires; ray_bound = (ltb-true _ _ h.0, ltb-true _ _ h.1) }

pub reading_of-requires : goal.reading_of-requires
reading_of-requires c = let p = ap level_count c.product_in-product.ensures in omega (arith, c.level_in-level.ensures.1)

pub returns : goal.returns
unfolding bin_on
returns c =
    let h = judged_fine _ _ (sym c.judge_bin.ensures ∙ c.in_ok-judge_bin.was) in
    rw h.0 (ap Ok (c.bin_of.ensures ∙ ap bin_of (c.reading_of.ensures ∙ (λ i. reading_of (c.product_in-product.ensures i) (c.level_in-level.ensures.0 i)))))
