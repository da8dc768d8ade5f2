-- By the cut that was sought, which is good (`calls` Finding.antt).
use Rattle.octets.proofs.Exits.{passed_on}
use Rattle.calls.proofs.Finding.{on_found, on_refused, cut_found, dual_good_cut}
use Rattle.dualpol.specs.Answers.{bin_answer, RightIn}
use Rattle.sections.specs.declared.Cut.{Cut}
use mathlib.Core.Path.{sym, ◌∙◌, subst}
use Rattle.dualpol.proofs.bin_value.Goals as goal

pub bin_value_on-requires : goal.bin_value_on-requires
bin_value_on-requires c =
    let told = sym c.find.ensures ∙ c.in_ok-find.was in
    dual_good_cut _ _ _ told

pub returns : goal.returns
unfolding bin_answer
returns c =
    let told = sym c.find.ensures ∙ c.in_ok-find.was in
    record {
      answer = c.bin_value_on.ensures.exact ∙ sym (on_found _ _ _ _ _ told);
      near = subst (λ (x : Cut). RightIn c.args.file.now c.args.ray c.args.bin x c.bin_value_on.result) (sym (cut_found _ _ _ told)) c.bin_value_on.ensures.near;
    }

pub returns-in_err-find : goal.returns-in_err-find
unfolding bin_answer
returns-in_err-find c =
    rw (passed_on _ _ c.from_residual.ensures.1) (record { near = tt; answer = sym (on_refused _ _ _ _ _ (sym c.find.ensures ∙ c.in_err-find.was)) })
