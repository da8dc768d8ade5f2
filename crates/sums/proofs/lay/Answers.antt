-- `lay` meets its contract: the row and the sum grow by an octet a turn.
use Prim.Native.Nat.{◌-◌}
use mathlib.Core.Path.{sym}
use native.Mathlib.Nat.{not-suc-le-zero}
use native.Mathlib.Omega.{arith}
use lib.ListN.{get_or}
use Rattle.sums.specs.Inner.{alone}
use Rattle.lent.proofs.Filled.{filled_more}
use Rattle.sums.proofs.Totals.{total_none, total_more}
use Rattle.sums.proofs.lay.Goals as goal

pub loop-i-init : goal.loop-i-init
loop-i-init c =
    (omega arith, sym (total_none (λ j. alone c.args.v (get_or c.args.octets.now j 0))), λ j h. absurd (not-suc-le-zero h))

pub loop-i-preserved : goal.loop-i-preserved
loop-i-preserved c = (
  omega arith,
  omega (arith, total_more (λ j. alone c.args.v (get_or c.args.octets.now j 0)) c.loop-i.i, c.by_itself.ensures),
  filled_more c.loop-i.row (λ j. get_or c.args.octets.now j 0 - c.args.v - 1) c.loop-i.i _ (omega arith) c.loop-i.invariant.2 c.digit.ensures,
)
