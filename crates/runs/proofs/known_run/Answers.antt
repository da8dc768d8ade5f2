-- `known_run` meets its contract: the digits still to come, weighed truly, make up what is left of the run.
use Prim.Native.Nat.{◌-◌, ◌≤◌, ◌<◌}
use native.Mathlib.Omega.{arith}
use native.Mathlib.Nat.{mul-le-mul}
use borrow.Author.Tests.{le-leb, lt-leb}
use Rattle.runs.proofs.Digits.{still_start, still_end, still_stop, still_more, known_none, known_is}
use Rattle.runs.proofs.known_run.Goals as goal

pub returns-then-left-eq0 : goal.returns-then-left-eq0
returns-then-left-eq0 c = known_none c.args.v c.args.left c.args.octets.now c.args.at c.if-left-eq0.true

pub loop-i-init : goal.loop-i-init
loop-i-init c = (omega (arith, (c.requires.1 (omega arith)).0), omega arith, still_start c.args.v c.args.octets.now c.args.at)

pub loop-i-preserved-then-weight-le2097152 : goal.loop-i-preserved-then-weight-le2097152
loop-i-preserved-then-weight-le2097152 c = let small : c.loop-i.weight ≤ 2097152 = omega arith in
    (omega arith, omega (arith, mul-le-mul {n₁ = c.loop-i.weight} {m₁ = 255 - c.args.v} {n₂ = 2097152} {m₂ = 255} (omega arith) (omega arith)), (simp (le-leb _ _ small) at (still_more c.loop-i.invariant.2 (omega arith) (c.requires.1 (omega arith)).1 (omega arith) (omega arith))))

pub loop-i-preserved : goal.loop-i-preserved
loop-i-preserved c =
    let large : 2097152 < c.loop-i.weight = omega arith in
    (omega arith, omega arith, (simp (lt-leb _ _ large) at (still_more c.loop-i.invariant.2 (omega arith) (c.requires.1 (omega arith)).1 (omega arith) (omega arith))))

pub returns-after-loop-i : goal.returns-after-loop-i
returns-after-loop-i c = known_is c.args.v c.args.left c.args.octets.now c.args.at (λ none. omega arith) _ _ (still_end c.loop-i.invariant.2 (omega arith))

pub returns-then-o-v : goal.returns-then-o-v
returns-then-o-v c = known_is c.args.v c.args.left c.args.octets.now c.args.at (λ none. omega arith) _ _ (still_stop c.loop-i.invariant.2 (omega arith) (omega arith))
