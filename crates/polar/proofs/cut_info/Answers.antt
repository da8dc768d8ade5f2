-- By the cut that was sought (`calls` Finding.antt).
use Rattle.octets.proofs.Exits.{passed_on}
use Rattle.calls.proofs.Finding.{on_found, on_refused}
use Rattle.polar.specs.Opening.{cut_answer}
use mathlib.Core.Path.{sym, ◌∙◌, ap}
use Rattle.polar.proofs.cut_info.Goals as goal
use Rattle.std.specs.Prelude.{Ok}

pub returns : goal.returns
unfolding cut_answer
returns c =
    let told = sym c.find.ensures ∙ c.in_ok-c.was in
    record { answer = ap Ok c.info_of.ensures ∙ sym (on_found _ _ _ _ _ told) }

pub returns-in_err-c : goal.returns-in_err-c
unfolding cut_answer
returns-in_err-c c =
    rw (passed_on _ _ c.from_residual.ensures.1) (record { answer = sym (on_refused _ _ _ _ _ (sym c.find.ensures ∙ c.in_err-c.was)) })
