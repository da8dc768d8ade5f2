-- `run_upto` meets its contract: what is left of the octets, with the length and the weight so far, answers what stands at the place.
use Prim.Native.Nat.{◌-◌, ◌≤◌, ◌<◌}
use native.Mathlib.Omega.{arith}
use borrow.Author.Tests.{le-leb, lt-leb}
use native.Mathlib.Nat.{mul-le-mul}
use Rattle.runs.proofs.Steps.{cut_none, cut_end, cut_start, go_digit, go_over, go_stop, go_end}
use Rattle.runs.proofs.run_upto.Goals as goal

pub returns-then-left-eq0 : goal.returns-then-left-eq0
returns-then-left-eq0 c = cut_none c.args.v c.args.left c.args.octets.now c.args.at c.if-left-eq0.true

pub returns-then-octets-at : goal.returns-then-octets-at
returns-then-octets-at c = cut_end c.args.v c.args.left c.args.octets.now c.args.at c.if-left-eq0.false c.if-octets-at.true

pub loop-i-init : goal.loop-i-init
loop-i-init c = (omega arith, omega arith, omega arith, cut_start c.args.v c.args.left c.args.octets.now c.args.at (omega arith) (λ none. omega arith) (omega arith))

pub returns-then-left-len : goal.returns-then-left-len
returns-then-left-len c = go_over c.args.v c.args.left _ _ c.loop-i.len c.loop-i.weight c.loop-i.i c.args.octets.now _ (omega arith) (omega arith) (omega arith) c.loop-i.invariant.3

pub loop-i-preserved-then-weight-left : goal.loop-i-preserved-then-weight-left
loop-i-preserved-then-weight-left c = let small : c.loop-i.weight ≤ c.args.left = omega arith in
    (omega arith, omega arith, omega (arith, mul-le-mul {n₁ = c.loop-i.weight} {m₁ = 255 - c.args.v} {n₂ = 1099511627775} {m₂ = 255} (omega arith) (omega arith)), (simp (le-leb _ _ small) at (go_digit c.args.v c.args.left _ _ c.loop-i.len c.loop-i.weight c.loop-i.i c.args.octets.now _ (omega arith) (omega arith) (omega arith) c.loop-i.invariant.3)))

pub loop-i-preserved : goal.loop-i-preserved
loop-i-preserved c = let large : c.args.left < c.loop-i.weight = omega arith in
    (omega arith, omega arith, omega arith, (simp (lt-leb _ _ large) at (go_digit c.args.v c.args.left _ _ c.loop-i.len c.loop-i.weight c.loop-i.i c.args.octets.now _ (omega arith) (omega arith) (omega arith) c.loop-i.invariant.3)))

pub returns-after-loop-i : goal.returns-after-loop-i
returns-after-loop-i c = go_end c.args.v c.args.left _ _ c.loop-i.len c.loop-i.weight c.loop-i.i c.args.octets.now _ (omega arith) c.loop-i.invariant.3

pub returns-then-o-v : goal.returns-then-o-v
returns-then-o-v c = go_stop c.args.v c.args.left _ _ c.loop-i.len c.loop-i.weight c.loop-i.i c.args.octets.now _ (omega arith) (omega arith) c.loop-i.invariant.3
