-- By what the call asks of the cut (`calls` Judging.antt).
use Rattle.octets.proofs.Exits.{passed_on}
use mathlib.Core.Path.{refl, sym, ◌∙◌}
use mathlib.Core.Bool.{true}
use borrow.Author.Tests.{ltb-true, leb-true}
use Rattle.calls.proofs.Judging.{judged_bad, judged_fine}
use Rattle.polar.specs.Rays.{ray_on}
use Rattle.polar.proofs.ray_levels_on.Goals as goal
use Rattle.std.specs.Prelude.{Err, Ok}

pub returns-in_err-judge_ray : goal.returns-in_err-judge_ray
unfolding ray_on
returns-in_err-judge_ray c =
    rw (passed_on _ _ c.from_residual.ensures.1) (record { value = sym (judged_bad Err c.args.c true (Ok tt) _ _ _ (sym c.judge_ray.ensures ∙ c.in_err-judge_ray.was)); out_after = refl })

pub ray_into-requires : goal.ray_into-requires
ray_into-requires c =
    let h = judged_fine _ _ (sym c.judge_ray.ensures ∙ c.in_ok-judge_ray.was) in record { good_cut = c.requires; ray_bound = (ltb-true _ _ h.0, leb-true _ _ h.1) }

pub returns : goal.returns
unfolding ray_on
returns c =
    let h = judged_fine _ _ (sym c.judge_ray.ensures ∙ c.in_ok-judge_ray.was) in record { value = rw (h.0, h.1); out_after = c.ray_into.ensures }
