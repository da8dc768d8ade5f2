-- Size, section 0, then the sections: the three ways of `verdict`.
use Rattle.sections.proofs.Checking.{failed, held}
use Rattle.sections.specs.Verdict.{sized, verdict_by}
use Rattle.walks.specs.Answer.{answer_for}
use Rattle.walks.proofs.walk.Goals as goal

pub returns-in_err-check : goal.returns-in_err-check
unfolding verdict_by sized answer_for
returns-in_err-check g c = let f = failed _ _ _ c.check.ensures _ c.in_err-check.was c.from_residual.ensures.1 in rw f.0 f.1

pub returns-in_err-check-2 : goal.returns-in_err-check-2
unfolding verdict_by sized answer_for
returns-in_err-check-2 g c =
    let f = failed _ _ _ c.check-2.ensures _ c.in_err-check-2.was c.from_residual-in_err-check-2.ensures.1 in
    rw (held _ _ _ c.check.ensures c.in_ok-check.was, ← c.fields0.ensures, f.0) f.1

pub returns : goal.returns
unfolding verdict_by sized
returns g c = rw (held _ _ _ c.check.ensures c.in_ok-check.was, ← c.fields0.ensures, held _ _ _ c.check-2.ensures c.in_ok-check-2.was) c.walk_to.ensures
