-- At the end the closing, else framing, then room for a cut, then the section itself, for which a 7 needs no room; framing gives what the parts of
-- the file ask.
use Rattle.sections.proofs.Checking.{failed, held}
use Rattle.sections.proofs.Framed.{framed_is}
use Rattle.sections.proofs.Order.{before_seven}
use Rattle.sections.specs.Checks.{FormatChecks, framed, room_for_cut, section_checks, checks_at}
use Rattle.sections.specs.declared.Context.{Context}
use Rattle.sections.specs.Verdict.{first_fault}
use Rattle.rules.specs.Fields.{length_at, number_at}
use Prim.Native.Nat.{ℕ, ◌+◌, ◌≤◌}
use mathlib.Core.List.{List}
use mathlib.Core.Bool.{true, and-false}
use borrow.Author.Tests.{eq-eqb, ne_eqb}
use native.Mathlib.Omega.{arith}
use mathlib.Core.Path.{◌≡◌, sym, ◌∙◌}
use Rattle.walks.proofs.judge_here.Goals as goal

-- a framed section 7 has its own checks alone: there is room, since no cut begins
seven : (own : FormatChecks) (s : List ℕ) (end : ℕ) (x : Context) (at : ℕ) → (at ≡ end → ⊥) → framed s end x at ≡ true → number_at s at ≡ 7
    → first_fault (own s x at 7) ≡ first_fault (checks_at own s end x at)
unfolding checks_at room_for_cut section_checks
seven own s end x at h f n = rw (ne_eqb at end h, f, n, and-false)

pub returns-then-at-end : goal.returns-then-at-end
unfolding checks_at
returns-then-at-end g c = rw (eq-eqb c.args.at c.args.end c.if-at-end.true, c.check.ensures, c.is_closed.ensures)

pub returns-in_err-check : goal.returns-in_err-check
unfolding checks_at
returns-in_err-check g c =
    let f = failed _ _ _ c.check-2.ensures _ c.in_err-check.was c.from_residual.ensures.1 in
    rw (ne_eqb c.args.at c.args.end c.if-at-end.false, ← c.is_framed.ensures, f.0) f.1

pub judge7-requires-clause-at_in_bounds : goal.judge7-requires-clause-at_in_bounds
judge7-requires-clause-at_in_bounds g c =
    let fr = framed_is c.args.s.now c.args.end c.args.x c.args.at (sym c.is_framed.ensures ∙ held _ _ _ c.check-2.ensures c.in_ok-check.was) in
    let reach : c.args.at + length_at c.args.s.now c.args.at ≤ c.args.end = fr.reach in omega (arith, reach, c.requires.0)

pub judge7-requires-clause-ready : goal.judge7-requires-clause-ready
judge7-requires-clause-ready g c =
    let fr = framed_is c.args.s.now c.args.end c.args.x c.args.at (sym c.is_framed.ensures ∙ held _ _ _ c.check-2.ensures c.in_ok-check.was) in
    c.requires.1 (before_seven c.args.x.previous _ fr.allowed (sym c.number_at-n.ensures ∙ c.if-n-eq7.true))

pub returns-then-n-eq7 : goal.returns-then-n-eq7
returns-then-n-eq7 g c = c.judge7.ensures ∙ seven g.F.FileFormat.own c.args.s.now c.args.end c.args.x c.args.at c.if-at-end.false (sym c.is_framed.ensures ∙ held _ _ _ c.check-2.ensures c.in_ok-check.was) (sym c.number_at-n.ensures ∙ c.if-n-eq7.true)

pub returns-in_err-check-2 : goal.returns-in_err-check-2
unfolding checks_at
returns-in_err-check-2 g c =
    let f = failed _ _ _ c.check-3.ensures _ c.in_err-check-2.was c.from_residual-in_err-check-2.ensures.1 in
    rw (ne_eqb c.args.at c.args.end c.if-at-end.false, ← c.is_framed.ensures, held _ _ _ c.check-2.ensures c.in_ok-check.was, ← c.has_room.ensures, f.0) f.1

pub judge-requires-clause-at_in_bounds : goal.judge-requires-clause-at_in_bounds
judge-requires-clause-at_in_bounds g c =
    let fr = framed_is c.args.s.now c.args.end c.args.x c.args.at (sym c.is_framed.ensures ∙ held _ _ _ c.check-2.ensures c.in_ok-check.was) in
    let reach : c.args.at + length_at c.args.s.now c.args.at ≤ c.args.end = fr.reach in omega (arith, reach, c.requires.0)

pub returns : goal.returns
unfolding checks_at
returns g c = rw (ne_eqb c.args.at c.args.end c.if-at-end.false, ← c.is_framed.ensures, held _ _ _ c.check-2.ensures c.in_ok-check.was, ← c.has_room.ensures, held _ _ _ c.check-3.ensures c.in_ok-check-2.was, c.judge.ensures, c.number_at-n.ensures)
