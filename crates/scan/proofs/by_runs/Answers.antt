-- `by_runs` meets its contract: what is left of the octets, with the bins still to come and the weight so far, answers what all of them do; where it stops is the place that it tells.
use Prim.Native.Nat.{ℕ, ◌-◌, ◌≤◌, ◌<◌}
use mathlib.Core.Path.{◌≡◌, refl, sym, ap, ◌∙◌}
use mathlib.Core.Logic.{◌⊎◌, inl, inr, ⊎_elim}
use native.Mathlib.Omega.{arith}
use native.Mathlib.Nat.{mul-le-mul}
use lib.ListN.{length}
use borrow.Author.Tests.{le-leb, lt-leb}
use Rattle.scan.specs.Inner.{scanned}
use Rattle.scan.proofs.Scanning.{verdict, none_given, all_read, too_few, at_run_right, level_step, level_last, digits_level, digit_step, digit_last, above_fails, full_fails, past_fails}
use Rattle.scan.proofs.by_runs.Goals as goal
use Rattle.scan.proofs.by_runs.Goals.{else-runs-test, then-runs-test+then-left-lt1, then-runs-test+else-left-lt1+then-octets-i, then-runs-test+else-left-lt1+else-octets-i+then-digits-test+then-left-more, then-runs-test+else-left-lt1+else-octets-i+then-digits-test+else-left-more+then-octets-i-2}
use Rattle.std.specs.Prelude.{Err}

pub returns-then-n-eq0 : goal.returns-then-n-eq0
returns-then-n-eq0 c = sym (none_given c.args.v c.args.n c.args.octets.now c.if-octets-eq0.true ∙ all_read c.args.n 0 c.if-n-eq0.true)

pub returns-then-octets-eq0 : goal.returns-then-octets-eq0
returns-then-octets-eq0 c = sym (none_given c.args.v c.args.n c.args.octets.now c.if-octets-eq0.true ∙ too_few c.args.n 0 c.if-n-eq0.false)

pub runs-init : goal.runs-init
runs-init c = (omega arith, omega arith, refl, at_run_right c.args.v (omega arith) c.args.n c.args.octets.now (omega arith))

pub digits-init : goal.digits-init
digits-init c = (omega arith, omega arith, omega arith, omega arith, refl, level_step c.args.v c.runs.left c.args.octets.now c.runs.i c.runs.o _ c.runs.invariant.0 c.runs.invariant.2 (omega arith) (omega arith) c.runs.invariant.3)

pub runs-preserved : goal.runs-preserved
runs-preserved c = (omega arith, omega arith, c.digits.invariant.4, digits_level c.args.v c.digits.left c.digits.weight c.args.octets.now c.digits.i c.digits.o _ c.digits.invariant.0 c.digits.invariant.4 (omega arith) c.digits.invariant.5)

pub digits-preserved-then-weight-le2097152 : goal.digits-preserved-then-weight-le2097152
digits-preserved-then-weight-le2097152 c = let small : c.digits.weight ≤ 2097152 = omega arith in
    (omega arith, omega arith, omega arith, omega (arith, mul-le-mul {n₁ = c.digits.weight} {m₁ = 255 - c.args.v} {n₂ = 2097152} {m₂ = 255} (omega arith) (omega arith)), refl, (simp (le-leb _ _ small) at (digit_step c.args.v c.digits.left c.digits.weight c.args.octets.now c.digits.i c.digits.o _ c.digits.invariant.0 c.digits.invariant.4 (omega arith) (omega arith) c.digits.invariant.5)))

pub digits-preserved : goal.digits-preserved
digits-preserved c = let large : 2097152 < c.digits.weight = omega arith in
    (omega arith, omega arith, omega arith, omega arith, refl, (simp (lt-leb _ _ large) at (digit_step c.args.v c.digits.left c.digits.weight c.args.octets.now c.digits.i c.digits.o _ c.digits.invariant.0 c.digits.invariant.4 (omega arith) (omega arith) c.digits.invariant.5)))

pub returns-then-i-octets : goal.returns-then-i-octets
returns-then-i-octets c =
    let whole = scanned c.args.v c.args.n c.args.octets.now in
    -- where the ways out meet: an octet fails, or all octets were read
    let out : ((whole ≡ Err c.runs-test.i) × (c.runs-test.i < length c.args.octets.now)) ⊎ ((length c.args.octets.now ≤ c.runs-test.i) × (whole ≡ verdict 0 c.runs-test.left c.runs-test.i)) = elim c.runs-test.branch [
      | else-runs-test w ↦ inl (above_fails c.args.v c.runs.left c.args.octets.now c.runs.i c.runs.o _ c.runs.invariant.0 c.runs.invariant.2 w.runs-test.false c.runs.invariant.3 ∙ ap (λ (k : ℕ). Err k) (sym w.i-is), omega (arith, w.i-is))
      | then-runs-test+then-left-lt1 w ↦ inl (full_fails c.args.v c.runs.left c.args.octets.now c.runs.i c.runs.o _ c.runs.invariant.0 c.runs.invariant.2 w.runs-test.true w.if-left-lt1.true c.runs.invariant.3 ∙ ap (λ (k : ℕ). Err k) (sym w.i-is), omega (arith, w.i-is))
      | then-runs-test+else-left-lt1+then-octets-i w ↦ inr (omega (arith, w.if-octets-i.true, w.i-is), level_last c.args.v c.runs.left c.args.octets.now c.runs.i c.runs.o _ c.runs.invariant.0 c.runs.invariant.2 w.runs-test.true (omega (arith, w.if-left-lt1.false)) w.if-octets-i.true c.runs.invariant.3 ∙ (λ k. verdict 0 (sym w.left-is k) (sym w.i-is k)))
      | then-runs-test+else-left-lt1+else-octets-i+then-digits-test+then-left-more w ↦ inl (past_fails c.args.v w.digits.left w.digits.weight c.args.octets.now w.digits.i w.digits.o _ w.digits.invariant.0 w.digits.invariant.4 w.digits-test.true w.if-left-more.true w.digits.invariant.5 ∙ ap (λ (k : ℕ). Err k) (sym w.i-is), omega (arith, w.i-is))
      | then-runs-test+else-left-lt1+else-octets-i+then-digits-test+else-left-more+then-octets-i-2 w ↦ inr (omega (arith, w.if-octets-i-2.true, w.i-is), digit_last c.args.v w.digits.left w.digits.weight c.args.octets.now w.digits.i w.digits.o _ w.digits.invariant.0 w.digits.invariant.4 w.digits-test.true w.if-left-more.false w.if-octets-i-2.true w.digits.invariant.5 ∙ (λ k. verdict 0 (sym w.left-is k) (sym w.i-is k)))
    ] in
    ⊎_elim (λ w. sym w.0) (λ w. absurd (omega arith)) out

pub returns-then-left-eq0 : goal.returns-then-left-eq0
returns-then-left-eq0 c =
    let whole = scanned c.args.v c.args.n c.args.octets.now in
    -- where the ways out meet: an octet fails, or all octets were read
    let out : ((whole ≡ Err c.runs-test.i) × (c.runs-test.i < length c.args.octets.now)) ⊎ ((length c.args.octets.now ≤ c.runs-test.i) × (whole ≡ verdict 0 c.runs-test.left c.runs-test.i)) = elim c.runs-test.branch [
      | else-runs-test w ↦ inl (above_fails c.args.v c.runs.left c.args.octets.now c.runs.i c.runs.o _ c.runs.invariant.0 c.runs.invariant.2 w.runs-test.false c.runs.invariant.3 ∙ ap (λ (k : ℕ). Err k) (sym w.i-is), omega (arith, w.i-is))
      | then-runs-test+then-left-lt1 w ↦ inl (full_fails c.args.v c.runs.left c.args.octets.now c.runs.i c.runs.o _ c.runs.invariant.0 c.runs.invariant.2 w.runs-test.true w.if-left-lt1.true c.runs.invariant.3 ∙ ap (λ (k : ℕ). Err k) (sym w.i-is), omega (arith, w.i-is))
      | then-runs-test+else-left-lt1+then-octets-i w ↦ inr (omega (arith, w.if-octets-i.true, w.i-is), level_last c.args.v c.runs.left c.args.octets.now c.runs.i c.runs.o _ c.runs.invariant.0 c.runs.invariant.2 w.runs-test.true (omega (arith, w.if-left-lt1.false)) w.if-octets-i.true c.runs.invariant.3 ∙ (λ k. verdict 0 (sym w.left-is k) (sym w.i-is k)))
      | then-runs-test+else-left-lt1+else-octets-i+then-digits-test+then-left-more w ↦ inl (past_fails c.args.v w.digits.left w.digits.weight c.args.octets.now w.digits.i w.digits.o _ w.digits.invariant.0 w.digits.invariant.4 w.digits-test.true w.if-left-more.true w.digits.invariant.5 ∙ ap (λ (k : ℕ). Err k) (sym w.i-is), omega (arith, w.i-is))
      | then-runs-test+else-left-lt1+else-octets-i+then-digits-test+else-left-more+then-octets-i-2 w ↦ inr (omega (arith, w.if-octets-i-2.true, w.i-is), digit_last c.args.v w.digits.left w.digits.weight c.args.octets.now w.digits.i w.digits.o _ w.digits.invariant.0 w.digits.invariant.4 w.digits-test.true w.if-left-more.false w.if-octets-i-2.true w.digits.invariant.5 ∙ (λ k. verdict 0 (sym w.left-is k) (sym w.i-is k)))
    ] in
    ⊎_elim (λ w. absurd (omega arith)) (λ w. sym (w.1 ∙ all_read _ _ c.if-left-eq0.true)) out

pub returns : goal.returns
returns c =
    let whole = scanned c.args.v c.args.n c.args.octets.now in
    -- where the ways out meet: an octet fails, or all octets were read
    let out : ((whole ≡ Err c.runs-test.i) × (c.runs-test.i < length c.args.octets.now)) ⊎ ((length c.args.octets.now ≤ c.runs-test.i) × (whole ≡ verdict 0 c.runs-test.left c.runs-test.i)) = elim c.runs-test.branch [
      | else-runs-test w ↦ inl (above_fails c.args.v c.runs.left c.args.octets.now c.runs.i c.runs.o _ c.runs.invariant.0 c.runs.invariant.2 w.runs-test.false c.runs.invariant.3 ∙ ap (λ (k : ℕ). Err k) (sym w.i-is), omega (arith, w.i-is))
      | then-runs-test+then-left-lt1 w ↦ inl (full_fails c.args.v c.runs.left c.args.octets.now c.runs.i c.runs.o _ c.runs.invariant.0 c.runs.invariant.2 w.runs-test.true w.if-left-lt1.true c.runs.invariant.3 ∙ ap (λ (k : ℕ). Err k) (sym w.i-is), omega (arith, w.i-is))
      | then-runs-test+else-left-lt1+then-octets-i w ↦ inr (omega (arith, w.if-octets-i.true, w.i-is), level_last c.args.v c.runs.left c.args.octets.now c.runs.i c.runs.o _ c.runs.invariant.0 c.runs.invariant.2 w.runs-test.true (omega (arith, w.if-left-lt1.false)) w.if-octets-i.true c.runs.invariant.3 ∙ (λ k. verdict 0 (sym w.left-is k) (sym w.i-is k)))
      | then-runs-test+else-left-lt1+else-octets-i+then-digits-test+then-left-more w ↦ inl (past_fails c.args.v w.digits.left w.digits.weight c.args.octets.now w.digits.i w.digits.o _ w.digits.invariant.0 w.digits.invariant.4 w.digits-test.true w.if-left-more.true w.digits.invariant.5 ∙ ap (λ (k : ℕ). Err k) (sym w.i-is), omega (arith, w.i-is))
      | then-runs-test+else-left-lt1+else-octets-i+then-digits-test+else-left-more+then-octets-i-2 w ↦ inr (omega (arith, w.if-octets-i-2.true, w.i-is), digit_last c.args.v w.digits.left w.digits.weight c.args.octets.now w.digits.i w.digits.o _ w.digits.invariant.0 w.digits.invariant.4 w.digits-test.true w.if-left-more.false w.if-octets-i-2.true w.digits.invariant.5 ∙ (λ k. verdict 0 (sym w.left-is k) (sym w.i-is k)))
    ] in
    ⊎_elim (λ w. sym w.0) (λ w. sym (w.1 ∙ too_few _ _ c.if-left-eq0.false)) out
