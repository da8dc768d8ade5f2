-- By what the call asks of the cut (`calls` Judging.antt), and then by whether the record fits; of the two rooms the smaller counts.
use Rattle.octets.proofs.Exits.{passed_on}
use mathlib.Core.Path.{refl, sym, ◌∙◌, ap}
use mathlib.Core.Bool.{Bool, cond}
use borrow.Author.Tests.{leb-true}
use Rattle.sections.specs.Refusal.{refuse}
use Rattle.sections.specs.declared.Why.TheVariants.{Record}
use Rattle.cuts.specs.Records.{usable_in}
use Rattle.calls.proofs.Judging.{judged_bad, judged_fine, written_if, both_rooms}
use Rattle.records.specs.Records.{from_on}
use Rattle.records.proofs.ray_values_from_on.Goals as goal
use Rattle.std.specs.Prelude.{Err, Ok}

pub returns-in_err-judge_ray : goal.returns-in_err-judge_ray
unfolding from_on
returns-in_err-judge_ray c =
    rw (passed_on _ _ c.from_residual.ensures.1) (record { value = rw (← c.min-room.ensures) (sym (judged_bad Err c.args.c (usable_in c.args.file.now c.args.c c.args.rec) (Ok tt) _ _ _ (sym c.judge_ray.ensures ∙ c.in_err-judge_ray.was))); marks_after = refl; values_after = refl })

pub readings_from-fits-requires : goal.readings_from-fits-requires
readings_from-fits-requires c =
    let h = judged_fine _ _ (sym c.judge_ray.ensures ∙ c.in_ok-judge_ray.was) in record { any_data_cut = c.requires; c_in_bounds = both_rooms _ _ _ _ (leb-true _ _ h.1) c.min-room.ensures }

pub returns : goal.returns
unfolding from_on
returns c =
    let h = judged_fine _ _ (sym c.judge_ray.ensures ∙ c.in_ok-judge_ray.was) in
    let none = refuse Record c.args.c.section7 in record { value = rw (← c.min-room.ensures, h.0, h.1) (c.check.ensures ∙ ap (λ (x : Bool). cond x (Ok tt) (Err none)) c.readings_from-fits.ensures.value); marks_after = written_if c.readings_from-fits.result none _ _ _ _ c.check.ensures c.readings_from-fits.ensures.marks_after; values_after = written_if c.readings_from-fits.result none _ _ _ _ c.check.ensures c.readings_from-fits.ensures.values_after }
