-- By the cut that was sought (`calls` Finding.antt); where every check but 8 passes, its data alone may be anything.
use Rattle.octets.proofs.Exits.{passed_on}
use Rattle.calls.proofs.Finding.{on_found, on_refused, cut_found, any_cut}
use Rattle.calls.specs.Cuts.{if_written}
use Rattle.records.specs.Records.{from_answer, levels_from}
use Rattle.cuts.specs.Records.{ray_from}
use Rattle.sections.specs.declared.Cut.{Cut}
use Rattle.lent.specs.Lent.{front}
use mathlib.Core.Path.{refl, sym, ◌∙◌, ap}
use Rattle.records.proofs.ray_levels_from.Goals as goal

pub ray_levels_from_on-requires : goal.ray_levels_from_on-requires
ray_levels_from_on-requires c =
    let told = sym c.find.ensures ∙ c.in_ok-find.was in
    any_cut _ _ _ told

pub returns : goal.returns
unfolding from_answer levels_from
returns c =
    let told = sym c.find.ensures ∙ c.in_ok-find.was in
    record {
      answer = c.ray_levels_from_on.ensures.value ∙ sym (on_found _ _ _ _ _ told);
      after = c.ray_levels_from_on.ensures.out_after ∙ ap (λ (x : Cut). if_written c.ray_levels_from_on.result (front (ray_from c.args.file.now x c.args.rec) c.args.out.now) c.args.out.now) (sym (cut_found _ _ _ told));
    }

pub returns-in_err-find : goal.returns-in_err-find
unfolding from_answer levels_from
returns-in_err-find c =
    rw (passed_on _ _ c.from_residual.ensures.1) (record { answer = sym (on_refused _ _ _ _ _ (sym c.find.ensures ∙ c.in_err-find.was)); after = refl })
