-- The first check that fails, or none.
use Rattle.sections.proofs.Checking.{failed, held}
use Rattle.calls.specs.Cuts.{judged_by}
use Rattle.calls.proofs.judge.Goals as goal

pub returns-in_err-check : goal.returns-in_err-check
unfolding judged_by
returns-in_err-check c = let f = failed _ _ _ c.check.ensures _ c.in_err-check.was c.from_residual.ensures.1 in rw f.0 f.1

pub returns : goal.returns
unfolding judged_by
returns c = rw (held _ _ _ c.check.ensures c.in_ok-check.was) c.check-2.ensures
