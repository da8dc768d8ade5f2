-- `put_decimal` meets its contract: it calls itself for the digits before the last, with a tenth of the number.
use Rattle.std.proofs.Common.{◌<◌, ◌/◌, arith}
use Rattle.std.proofs.Math.Nat.{div-lt_self}
use Rattle.lines.proofs.Decimal.{decimal_longer, decimal_some}
use Rattle.lines.proofs.Digits.{one_digit, last_digit}
use Rattle.lines.proofs.+put_decimal.Goals as goal

pub bounds-out-at : goal.bounds-out-at
bounds-out-at t c = omega (arith, decimal_some c.args.n)

pub returns-then-n-lt10 : goal.returns-then-n-lt10
returns-then-n-lt10 t c = one_digit c.args.out.now c.args.at c.args.n c.if-n-lt10.true (omega (arith, decimal_some c.args.n))

pub put_decimal-last-requires : goal.put_decimal-last-requires
put_decimal-last-requires t c =
    let less : c.args.n / 10 < c.args.n = div-lt_self (omega arith) (omega arith) in
    (omega arith, omega (arith, decimal_longer c.args.n c.if-n-lt10.false))

pub bounds-out-last : goal.bounds-out-last
bounds-out-last t c = omega (arith, decimal_longer c.args.n c.if-n-lt10.false)

pub returns : goal.returns
returns t c = last_digit c.args.out.now c.put_decimal-last.new.out c.args.at c.put_decimal-last.result c.args.n c.if-n-lt10.false c.put_decimal-last.ensures c.requires
