-- By the cut that was sought, which is good (`calls` Finding.antt).
use Rattle.octets.proofs.Exits.{passed_on}
use Rattle.calls.proofs.Finding.{on_found, on_refused, cut_found, good_cut}
use Rattle.calls.specs.Cuts.{if_written}
use Rattle.records.specs.Records.{build_answer, row_after}
use Rattle.cuts.specs.Records.{records_in}
use Rattle.sections.specs.declared.Cut.{Cut}
use Rattle.lent.specs.Lent.{front}
use mathlib.Core.Path.{refl, sym, ◌∙◌, ap}
use Rattle.records.proofs.build_index.Goals as goal

pub build_on-requires : goal.build_on-requires
build_on-requires c = good_cut _ _ _ (sym c.find.ensures ∙ c.in_ok-find.was)

pub returns : goal.returns
unfolding build_answer row_after
returns c =
    let told = sym c.find.ensures ∙ c.in_ok-find.was in
    record {
      answer = c.build_on.ensures.value ∙ sym (on_found _ _ _ _ _ told);
      after =
          c.build_on.ensures.row_after
          ∙ ap (λ (x : Cut). if_written c.build_on.result (front (records_in c.args.file.now x) c.args.row.now) c.args.row.now) (sym (cut_found _ _ _ told));
    }

pub returns-in_err-find : goal.returns-in_err-find
unfolding build_answer row_after
returns-in_err-find c =
    rw (passed_on _ _ c.from_residual.ensures.1) (record { answer = sym (on_refused _ _ _ _ _ (sym c.find.ensures ∙ c.in_err-find.was)); after = refl })
