-- By the cut that was sought, which is good (`calls` Finding.antt).
use Rattle.octets.proofs.Exits.{passed_on}
use Rattle.calls.proofs.Finding.{on_found, on_refused, cut_found, good_cut}
use Rattle.calls.specs.Cuts.{if_written}
use Rattle.polar.specs.Rays.{ray_answer, marks_after, values_after}
use Rattle.cuts.specs.Bins.{ray_in}
use Rattle.base_format.specs.Parts.{product_in}
use Rattle.sections.specs.declared.Cut.{Cut}
use Rattle.values.specs.Ray.{marks_of, values_of}
use mathlib.Core.Path.{refl, sym, ◌∙◌, ap}
use Rattle.polar.proofs.ray_values.Goals as goal

pub ray_values_on-requires : goal.ray_values_on-requires
ray_values_on-requires c =
    let told = sym c.find.ensures ∙ c.in_ok-find.was in
    good_cut _ _ _ told

pub returns : goal.returns
unfolding ray_answer marks_after values_after
returns c =
    let told = sym c.find.ensures ∙ c.in_ok-find.was in
    let same = sym (cut_found _ _ _ told) in
    record {
      answer = c.ray_values_on.ensures.value ∙ sym (on_found _ _ _ _ _ told);
      marked =
          c.ray_values_on.ensures.marks_after
          ∙ ap (λ (x : Cut). if_written c.ray_values_on.result (marks_of (product_in c.args.file.now x) (ray_in c.args.file.now x c.args.ray) c.args.marks.now) c.args.marks.now) same;
      valued =
          c.ray_values_on.ensures.values_after
          ∙ ap (λ (x : Cut). if_written c.ray_values_on.result (values_of (product_in c.args.file.now x) (ray_in c.args.file.now x c.args.ray) c.args.values.now) c.args.values.now) same;
    }

pub returns-in_err-find : goal.returns-in_err-find
unfolding ray_answer marks_after values_after
returns-in_err-find c =
    rw (passed_on _ _ c.from_residual.ensures.1) (record { answer = sym (on_refused _ _ _ _ _ (sym c.find.ensures ∙ c.in_err-find.was)); marked = refl; valued = refl })
