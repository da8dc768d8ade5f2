-- By the cut that was sought (`calls` Finding.antt).
use Rattle.octets.proofs.Exits.{passed_on}
use Rattle.calls.proofs.Finding.{on_found, on_refused}
use Rattle.dualpol.specs.Answers.{cut_answer}
use mathlib.Core.Path.{sym, ◌∙◌, ap}
use Rattle.dualpol.proofs.cut_info.Goals as goal
use Rattle.std.specs.Prelude.{Ok}

pub returns : goal.returns
unfolding cut_answer
returns c =
    let told = sym c.find.ensures ∙ c.in_ok-c.was in
    ap Ok c.grid_at.ensures ∙ sym (on_found _ _ _ _ _ told)

pub returns-in_err-c : goal.returns-in_err-c
unfolding cut_answer
returns-in_err-c c =
    passed_on _ _ c.from_residual.ensures.1 ∙ sym (on_refused _ _ _ _ _ (sym c.find.ensures ∙ c.in_err-c.was))
