-- `put_named` meets its contract: the name, and then the number, which has at most twenty digits.
use native.Mathlib.Omega.{arith}
use Rattle.lines.proofs.Decimal.{twenty}
use Rattle.lent.proofs.Putting.{then}
use Rattle.lines.proofs.put_named.Goals as goal

pub put_decimal-requires : goal.put_decimal-requires
put_decimal-requires c = omega (arith, twenty c.args.n (omega (arith, c.ranges)), c.put_octets-a.ensures.past, c.put_octets-a.auto.out)

pub returns : goal.returns
returns c = let size = twenty c.args.n (omega (arith, c.ranges)) in record { put = then c.put_octets-a.ensures c.put_decimal.ensures; upper_bound = omega (arith, c.put_octets-a.ensures.past, c.put_decimal.ensures.past) }
