-- By what the walk answers.
use Rattle.octets.proofs.Exits.{passed_on}
use Rattle.calls.proofs.Finding.{file_some, file_bad}
use mathlib.Core.Path.{sym, ◌∙◌, ap}
use Rattle.dualpol.specs.Answers.{open_answer}
use Rattle.dualpol.proofs.open.Goals as goal
use Rattle.std.specs.Prelude.{Ok}

pub returns : goal.returns
unfolding open_answer
returns c = ap Ok c.summary_of.ensures ∙ sym (file_some _ _ _ _ (sym c.walk.ensures ∙ c.in_ok-found.was))

pub returns-in_err-found : goal.returns-in_err-found
unfolding open_answer
returns-in_err-found c =
    passed_on _ _ c.from_residual.ensures.1 ∙ sym (file_bad _ _ _ _ (sym c.walk.ensures ∙ c.in_err-found.was))
