-- `by_blocks` meets its contract: what a scan of the octets behind the fronts taken off finds, moved by their number, is what a scan of all finds.
use Prim.Native.Nat.{ℕ}
use mathlib.Core.Path.{◌∙◌, subst}
use mathlib.Core.List.{List}
use native.Mathlib.Omega.{arith}
use lib.ListN.{length-drop}
use Rattle.lent.proofs.Lent.{to_end}
use Rattle.sums.specs.Inner.{Fronts}
use Rattle.scan.proofs.Moved.{front_more}
use Rattle.scan.proofs.by_blocks.Goals as goal

pub loop-at-preserved : goal.loop-at-preserved
loop-at-preserved c =
    let f = subst (λ (l : List ℕ). Fronts c.args.v l c.in-Some.front.octets c.in-Some.front.bins) (to_end c.args.octets.now c.loop-at.at) c.in-Some.ensures.1 in (
      omega arith,
      omega (arith, f, length-drop c.loop-at.at c.args.octets.now),
      omega arith,
      front_more c.args.v c.loop-at.left c.args.octets.now c.loop-at.at c.in-Some.front.octets c.in-Some.front.bins f (omega arith) ∙ c.loop-at.invariant.3,
    )
