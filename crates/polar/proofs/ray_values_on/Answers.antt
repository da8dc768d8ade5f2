-- By what the call asks of the cut (`calls` Judging.antt); of the two rooms the smaller counts.
use Rattle.octets.proofs.Exits.{passed_on}
use mathlib.Core.Path.{refl, sym, ◌∙◌}
use mathlib.Core.Bool.{true}
use borrow.Author.Tests.{ltb-true, leb-true}
use Rattle.calls.proofs.Judging.{judged_bad, judged_fine, both_rooms}
use Rattle.polar.specs.Rays.{ray_on}
use Rattle.polar.proofs.ray_values_on.Goals as goal
use Rattle.std.specs.Prelude.{Err, Ok}

pub returns-in_err-judge_ray : goal.returns-in_err-judge_ray
unfolding ray_on
returns-in_err-judge_ray c =
    rw (passed_on _ _ c.from_residual.ensures.1) (record { value = rw (← c.min-room.ensures) (sym (judged_bad Err c.args.c true (Ok tt) _ _ _ (sym c.judge_ray.ensures ∙ c.in_err-judge_ray.was))); marks_after = refl; values_after = refl })

pub readings_into-requires : goal.readings_into-requires
readings_into-requires c =
    let h = judged_fine _ _ (sym c.judge_ray.ensures ∙ c.in_ok-judge_ray.was) in
    let r = both_rooms _ _ _ _ (leb-true _ _ h.1) c.min-room.ensures in record { good_cut = c.requires; ray_bound = (ltb-true _ _ h.0, r.0, r.1) }

pub returns : goal.returns
unfolding ray_on
returns c =
    let h = judged_fine _ _ (sym c.judge_ray.ensures ∙ c.in_ok-judge_ray.was) in
    record { value = rw (← c.min-room.ensures, h.0, h.1); marks_after = c.readings_into.ensures.marks_after; values_after = c.readings_into.ensures.values_after }
