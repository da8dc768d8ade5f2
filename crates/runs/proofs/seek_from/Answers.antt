-- `seek_from` meets its contract: the run in hand does not begin after bin a, and in the end it holds it.
use Prim.Native.Nat.{ℕ, ◌≤◌, ◌<◌, ◌+◌, ◌-◌}
use mathlib.Core.Path.{◌≡◌, sym, ap, ◌∙◌}
use mathlib.Core.List.{List}
use native.Mathlib.Omega.{arith}
use lib.ListN.{length}
use Rattle.std.specs.Prelude.{Some}
use Rattle.runs.specs.declared.Run.{Run}
use Rattle.runs.specs.Run.{levels, run_len}
use Rattle.runs.specs.Inner.{Stands, known_step}
use Rattle.runs.proofs.Here.{here_known, here_next, known_ended, known_told}
use Rattle.runs.proofs.seek_from.Goals as goal

-- a run that the step tells begins no later than bin a and has bins, and reading stands past it
past : (v : ℕ) (s : List ℕ) (at end a left : ℕ) → Stands v s at end → left ≡ a + 1 - end → a < length (levels v s) → (r : Run) → Some r ≡ known_step v left s at → (end ≤ a) × (0 < r.len) × Stands v s r.next (end + r.len) × (r.len ≡ run_len v s at)
past v s at end a left stands owed inside r told =
    let t = known_told v left s at r told in
    let n = here_next v s at end stands (omega (arith, t.0)) r.len r.next t.2 t.3 in
    (omega (arith, t.0), n.0, n.1, t.2)

pub known_run-requires : goal.known_run-requires
known_run-requires c = (c.requires.v_bound.0, λ some. here_known c.args.v c.args.octets.now c.loop-run.next c.loop-run.end c.loop-run.invariant.1.past (omega (arith, some, c.excess.ensures, c.requires.v_bound.2)) c.requires.v_bound.1)

pub overflow_add-end : goal.overflow_add-end
overflow_add-end c =
    let run = past _ _ _ _ _ _ c.loop-run.invariant.1.past c.excess.ensures c.requires.v_bound.2 _ (sym c.in-Some.is ∙ c.known_run.ensures) in
    record { fits = omega (arith, run.2.within, c.requires.v_bound.1) }

pub loop-run-smaller : goal.loop-run-smaller
loop-run-smaller c =
    let run = past _ _ _ _ _ _ c.loop-run.invariant.1.past c.excess.ensures c.requires.v_bound.2 _ (sym c.in-Some.is ∙ c.known_run.ensures) in
    omega (arith, run.0, run.1)

pub loop-run-preserved : goal.loop-run-preserved
loop-run-preserved c =
    let run = past _ _ _ _ _ _ c.loop-run.invariant.1.past c.excess.ensures c.requires.v_bound.2 _ (sym c.in-Some.is ∙ c.known_run.ensures) in
    (run.0, record { past = run.2; held = λ _. (c.loop-run.invariant.1.past, ap (λ (n : ℕ). c.loop-run.end + n) run.3) })

pub returns : goal.returns
returns c = let none = known_ended c.args.v _ c.args.octets.now c.loop-run.next (sym c.in_default.is ∙ c.known_run.ensures) in
    record { is = c.loop-run.invariant.1; before = c.loop-run.invariant.0; inside = omega (arith, none, c.excess.ensures) }
