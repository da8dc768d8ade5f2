-- `count_front` meets its contract: what is counted and what the row still holds, times the weight, is what the front gives.
use Prim.Native.Nat.{ℕ, ◌-◌, ◌*◌, ◌≤◌}
use mathlib.Core.Path.{◌∙◌, subst}
use native.Mathlib.Nat.{mul-le-mul}
use native.Mathlib.Omega.{arith}
use Rattle.sums.proofs.Counting.{Counted, counted_first, counted_less, counted_next, counted_all}
use Rattle.sums.proofs.count_front.Goals as goal

-- a turn's products: the weight is at most the bins of the largest cut, and B at least 2
products : (sum weight v : ℕ) → sum ≤ 65535 → weight ≤ 2097152 → v ≤ 253 → (sum * weight ≤ 65535 * weight) × (weight * (255 - v) ≤ 2097152 * 255) × (weight * 2 ≤ weight * (255 - v))
products sum weight v few low small = (
  mul-le-mul {n₁ = sum} {m₁ = weight} {n₂ = 65535} {m₂ = weight} few (omega arith),
  mul-le-mul {n₁ = weight} {m₁ = 255 - v} {n₂ = 2097152} {m₂ = 255} low (omega arith),
  mul-le-mul {n₁ = weight} {m₁ = 2} {n₂ = weight} {m₂ = 255 - v} (omega arith) (omega arith),
)

pub loop-sum-init : goal.loop-sum-init
loop-sum-init c = (
  omega arith,
  c.whole_runs-whole.ensures.laid.1 256 (omega arith) (omega arith),
  omega arith,
  omega arith,
  omega arith,
  omega arith,
  counted_first c.args.v c.args.octets.now c.whole_runs-whole.result.octets _ c.whole_runs-whole.result.sum (omega arith) c.requires.1 c.whole_runs-whole.ensures.octets_bound.0 c.whole_runs-whole.ensures.octets_bound.1 c.whole_runs-whole.ensures.laid c.whole_runs-whole.ensures.octets_bound.2,
)

pub overflow_sub-bins : goal.overflow_sub-bins
overflow_sub-bins c =
    counted_less c.args.v c.args.octets.now _ c.loop-sum.row c.shift-deeper.new.row c.loop-sum.sum c.shift-deeper.result c.loop-sum.weight c.loop-sum.bins c.loop-sum.invariant.1 c.shift-deeper.ensures.shifted c.shift-deeper.ensures.value c.loop-sum.invariant.6

pub loop-sum-smaller : goal.loop-sum-smaller
loop-sum-smaller c =
    omega (arith, products 0 c.loop-sum.weight c.args.v (omega arith) (omega arith) (omega arith))

pub loop-sum-preserved : goal.loop-sum-preserved
loop-sum-preserved c =
    let p = products (c.loop-sum.sum - c.shift-deeper.result) c.loop-sum.weight c.args.v (omega arith) (omega arith) (omega arith) in (
      omega arith,
      c.shift-deeper.ensures.shifted.1 ∙ c.loop-sum.invariant.1,
      omega arith,
      omega (arith, p),
      omega (arith, p),
      omega (arith, p),
      counted_next c.args.v c.args.octets.now _ c.loop-sum.row c.shift-deeper.new.row c.loop-sum.sum c.shift-deeper.result c.loop-sum.weight c.loop-sum.bins c.loop-sum.invariant.1 c.shift-deeper.ensures.shifted c.shift-deeper.ensures.value c.loop-sum.invariant.6,
    )

pub returns : goal.returns
returns c =
    (omega arith, (omega arith, omega arith, c.whole_runs-whole.ensures.octets_bound.1, counted_all c.args.v c.args.octets.now c.whole_runs-whole.result.octets c.loop-sum.row c.loop-sum.weight c.loop-sum.bins (subst (λ (x : ℕ). Counted c.args.v c.args.octets.now c.whole_runs-whole.result.octets c.loop-sum.row x c.loop-sum.weight c.loop-sum.bins) (omega arith) c.loop-sum.invariant.6)))
