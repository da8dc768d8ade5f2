-- What the checks come to decides the step (Stepping.antt).
use Rattle.octets.proofs.Exits.{passed_on}
use Rattle.walks.proofs.Stepping.{step_refused, step_done, step_next}
use Rattle.sections.proofs.Faults.{fine_framed}
use Rattle.walks.specs.declared.State.{State}
use Rattle.walks.specs.Places.{context_in}
use Rattle.sections.specs.Checks.{checks_at}
use Rattle.sections.specs.Verdict.{first_fault}
use Rattle.walks.specs.Walk.{past}
use Rattle.rules.specs.Fields.{length_at}
use native.Mathlib.Omega.{arith}
use Prim.Native.Nat.{◌+◌, ◌≤◌}
use mathlib.Core.Path.{◌≡◌, sym, ◌∙◌, ap}
use Rattle.walks.proofs.one_step.Goals as goal
use Rattle.std.specs.Prelude.{Ok, Some}

pub judge_here-requires : goal.judge_here-requires
judge_here-requires g c = rw c.context_in.ensures ((c.requires.end_in, c.requires.ready))

pub returns-in_err-judge_here : goal.returns-in_err-judge_here
returns-in_err-judge_here g c =
    let judged : c.judge_here.result ≡ first_fault (checks_at g.F.FileFormat.own c.args.s.now c.args.end (context_in c.args.st) c.args.st.at) = rw (sym c.context_in.ensures) c.judge_here.ensures in
    passed_on _ _ c.from_residual.ensures.1 ∙ sym (step_refused g.F.FileFormat.own c.args.s.now c.args.end c.args.st _ (sym judged ∙ c.in_err-judge_here.was))

pub returns-then-at-end : goal.returns-then-at-end
returns-then-at-end g c =
    let judged : c.judge_here.result ≡ first_fault (checks_at g.F.FileFormat.own c.args.s.now c.args.end (context_in c.args.st) c.args.st.at) = rw (sym c.context_in.ensures) c.judge_here.ensures in
    sym (step_done g.F.FileFormat.own c.args.s.now c.args.end c.args.st (sym judged ∙ c.in_ok-judge_here.was) c.if-at-end.true)

pub passed-requires : goal.passed-requires
passed-requires g c =
    let judged : c.judge_here.result ≡ first_fault (checks_at g.F.FileFormat.own c.args.s.now c.args.end (context_in c.args.st) c.args.st.at) = rw (sym c.context_in.ensures) c.judge_here.ensures in
    let fr = fine_framed g.F.FileFormat.own c.args.s.now c.args.end (context_in c.args.st) c.args.st.at c.if-at-end.false (sym judged ∙ c.in_ok-judge_here.was) in
    let reach : c.args.st.at + length_at c.args.s.now c.args.st.at ≤ c.args.end = fr.reach in
    (omega (arith, reach, c.length_at-len.ensures), c.requires.few)

pub returns : goal.returns
returns g c =
    let judged : c.judge_here.result ≡ first_fault (checks_at g.F.FileFormat.own c.args.s.now c.args.end (context_in c.args.st) c.args.st.at) = rw (sym c.context_in.ensures) c.judge_here.ensures in
    ap (λ (x : State). Ok (Some x)) (c.passed.ensures ∙ (λ i. past c.args.st (c.number_at-n.ensures i) (c.length_at-len.ensures i)))
    ∙ sym (step_next g.F.FileFormat.own c.args.s.now c.args.end c.args.st (sym judged ∙ c.in_ok-judge_here.was) c.if-at-end.false)
