-- Below the sign's weight the number itself, from it on minus the rest: the two laws of Signs.antt.
use Rattle.std.proofs.Common.{◌<◌, ◌≤◌, ◌-◌, ap, ◌∙◌, arith}
use Rattle.octets.specs.Octets.{sign_bit, signed}
use Rattle.octets.proofs.Signs.{minus_fits, plain, turned, two_halves, sign_low}
use Rattle.octets.proofs.signed.Goals as goal

pub overflow_cast-result-else-n-sign : goal.overflow_cast-result-else-n-sign
overflow_cast-result-else-n-sign g c =
    let a = two_halves g.T.Number.WIDTH g.met.T.Number.some in
    let b = sign_low g.T.Number.WIDTH g.met.T.Short.short in
    record { sfits = omega (arith, c.wide-n.ensures.fits, c.sign_bit-sign.ensures) }

pub overflow_sub-result-else-n-sign : goal.overflow_sub-result-else-n-sign
overflow_sub-result-else-n-sign g c =
    let a = two_halves g.T.Number.WIDTH g.met.T.Number.some in
    let b = sign_low g.T.Number.WIDTH g.met.T.Short.short in
    minus_fits (c.wide-n.result - c.sign_bit-sign.result) (omega (arith, c.wide-n.ensures.fits, c.sign_bit-sign.ensures))

pub returns-then-n-sign : goal.returns-then-n-sign
returns-then-n-sign g c =
    let b = sign_low g.T.Number.WIDTH g.met.T.Short.short in
    plain g.T.Number.WIDTH c.wide-n.result (omega (arith, c.if-n-sign.true, c.sign_bit-sign.ensures)) (omega (arith, c.if-n-sign.true, c.sign_bit-sign.ensures)) ∙ ap (signed g.T.Number.WIDTH) c.wide-n.ensures.value

pub returns-else-n-sign : goal.returns-else-n-sign
returns-else-n-sign g c =
    let a = two_halves g.T.Number.WIDTH g.met.T.Number.some in
    let b = sign_low g.T.Number.WIDTH g.met.T.Short.short in
    let n = c.wide-n.ensures in
    let above : sign_bit g.T.Number.WIDTH ≤ c.wide-n.result = omega (arith, c.if-n-sign.false, c.sign_bit-sign.ensures) in
    let rest : c.wide-n.result - sign_bit g.T.Number.WIDTH < 2147483648 = omega (arith, n.fits) in
    rw c.sign_bit-sign.ensures (turned g.T.Number.WIDTH c.wide-n.result above rest ∙ ap (signed g.T.Number.WIDTH) n.value)
