-- By the cut that was sought, which is good (`calls` Finding.antt).
use Rattle.octets.proofs.Exits.{passed_on}
use Rattle.calls.proofs.Finding.{on_found, on_refused, cut_found, good_cut}
use Rattle.calls.specs.Cuts.{if_written}
use Rattle.polar.specs.Rays.{ray_answer, levels_after}
use Rattle.cuts.specs.Bins.{ray_in}
use Rattle.sections.specs.declared.Cut.{Cut}
use Rattle.lent.specs.Lent.{front}
use mathlib.Core.Path.{refl, sym, ◌∙◌, ap}
use Rattle.polar.proofs.ray_levels.Goals as goal

pub ray_levels_on-requires : goal.ray_levels_on-requires
ray_levels_on-requires c =
    let told = sym c.find.ensures ∙ c.in_ok-find.was in
    good_cut _ _ _ told

pub returns : goal.returns
unfolding ray_answer levels_after
returns c =
    let told = sym c.find.ensures ∙ c.in_ok-find.was in
    record {
      answer = c.ray_levels_on.ensures.value ∙ sym (on_found _ _ _ _ _ told);
      after =
          c.ray_levels_on.ensures.out_after
          ∙ ap (λ (x : Cut). if_written c.ray_levels_on.result (front (ray_in c.args.file.now x c.args.ray) c.args.out.now) c.args.out.now) (sym (cut_found _ _ _ told));
    }

pub returns-in_err-find : goal.returns-in_err-find
unfolding ray_answer levels_after
returns-in_err-find c =
    rw (passed_on _ _ c.from_residual.ensures.1) (record { answer = sym (on_refused _ _ _ _ _ (sym c.find.ensures ∙ c.in_err-find.was)); after = refl })
