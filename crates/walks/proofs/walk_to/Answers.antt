-- The loop's invariant is `Along` (Along.antt): the state mirrors the history, and the verdict from here on is the whole verdict.
use Rattle.octets.proofs.Exits.{passed_on}
use Rattle.walks.proofs.Along.{along_start, along_next, along_done, along_refused, further}
use Rattle.walks.proofs.Ready.{sound}
use native.Mathlib.Omega.{arith}
use mathlib.Core.Path.{sym, ◌∙◌, ap}
use Rattle.walks.proofs.walk_to.Goals as goal
use Rattle.std.specs.Prelude.{Ok}

pub loop-next-init : goal.loop-next-init
loop-next-init g c = along_start _ _ _ _ c.requires.0 c.requires.1

pub one_step-requires : goal.one_step-requires
one_step-requires g c = sound _ _ g.met.F.FileFormat.ready_before_7 _ _ _ _ _ c.loop-next.invariant

pub returns-in_err-next : goal.returns-in_err-next
returns-in_err-next g c = passed_on _ _ c.from_residual.ensures.1 ∙ along_refused _ _ _ _ _ _ c.loop-next.invariant _ (sym c.one_step.ensures ∙ c.in_err-next.was)

pub loop-next-smaller : goal.loop-next-smaller
loop-next-smaller g c = let f = further _ _ _ _ _ _ c.loop-next.invariant c.in-Some.next (sym c.one_step.ensures ∙ c.in_ok-next.was ∙ ap Ok c.in-Some.is) in
    omega arith

pub loop-next-preserved : goal.loop-next-preserved
loop-next-preserved g c = rw c.chosen_after-chosen.ensures (along_next _ _ _ _ _ _ c.loop-next.invariant c.in-Some.next (sym c.one_step.ensures ∙ c.in_ok-next.was ∙ ap Ok c.in-Some.is))

pub returns : goal.returns
returns g c = along_done _ _ _ _ _ _ c.loop-next.invariant (sym c.one_step.ensures ∙ c.in_ok-next.was ∙ ap Ok c.in_default.is)
