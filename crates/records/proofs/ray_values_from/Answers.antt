-- By the cut that was sought (`calls` Finding.antt); where every check but 8 passes, its data alone may be anything.
use Rattle.octets.proofs.Exits.{passed_on}
use Rattle.calls.proofs.Finding.{on_found, on_refused, cut_found, any_cut}
use Rattle.calls.specs.Cuts.{if_written}
use Rattle.records.specs.Records.{from_answer, marks_from, values_from}
use Rattle.cuts.specs.Records.{ray_from}
use Rattle.base_format.specs.Parts.{product_in}
use Rattle.values.specs.Ray.{marks_of, values_of}
use Rattle.sections.specs.declared.Cut.{Cut}
use mathlib.Core.Path.{refl, sym, ◌∙◌, ap}
use Rattle.records.proofs.ray_values_from.Goals as goal

pub ray_values_from_on-requires : goal.ray_values_from_on-requires
ray_values_from_on-requires c =
    let told = sym c.find.ensures ∙ c.in_ok-find.was in
    any_cut _ _ _ told

pub returns : goal.returns
unfolding from_answer marks_from values_from
returns c =
    let told = sym c.find.ensures ∙ c.in_ok-find.was in
    let same = sym (cut_found _ _ _ told) in
    record {
      answer = c.ray_values_from_on.ensures.value ∙ sym (on_found _ _ _ _ _ told);
      marked = c.ray_values_from_on.ensures.marks_after ∙ ap (λ (x : Cut). if_written c.ray_values_from_on.result (marks_of (product_in c.args.file.now x) (ray_from c.args.file.now x c.args.rec) c.args.marks.now) c.args.marks.now) same;
      valued = c.ray_values_from_on.ensures.values_after ∙ ap (λ (x : Cut). if_written c.ray_values_from_on.result (values_of (product_in c.args.file.now x) (ray_from c.args.file.now x c.args.rec) c.args.values.now) c.args.values.now) same;
    }

pub returns-in_err-find : goal.returns-in_err-find
unfolding from_answer marks_from values_from
returns-in_err-find c =
    rw (passed_on _ _ c.from_residual.ensures.1) (record { answer = sym (on_refused _ _ _ _ _ (sym c.find.ensures ∙ c.in_err-find.was)); marked = refl; valued = refl })
