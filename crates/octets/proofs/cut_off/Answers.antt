-- One octet more at each turn.
use Rattle.std.proofs.Common.{◌≡◌, get_or, refl, arith}
use Rattle.std.proofs.lemmas.Grind.{common_steps}
use Rattle.octets.specs.Octets.{be}
use Rattle.octets.proofs.Laws.{be_more, be_fits, more_fits}
use Rattle.octets.proofs.cut_off.Goals as goal

pub loop-i-init : goal.loop-i-init
unfolding be
loop-i-init g c = refl

pub overflow_mul-n : goal.overflow_mul-n
overflow_mul-n g c = let m = more_fits c.args.octets.now 0 c.loop-i.i c.type_inv.octets (omega (arith, c.loop-i-test.true, c.WIDTH-i-end.ensures, g.met.T.Number.few)) in record { fits = omega (arith, c.loop-i.invariant) }

pub overflow_add-n : goal.overflow_add-n
overflow_add-n g c = let m = more_fits c.args.octets.now 0 c.loop-i.i c.type_inv.octets (omega (arith, c.loop-i-test.true, c.WIDTH-i-end.ensures, g.met.T.Number.few)) in record { fits = omega (arith, c.loop-i.invariant, c.from.ensures) }

pub loop-i-preserved : goal.loop-i-preserved
loop-i-preserved g c = let x : c.from.result ≡ get_or c.args.octets.now c.loop-i.i 0 = grind (arith, common_steps, c.from.ensures, c.unwrap_or.ensures, c.copied.ensures, c.get.ensures) in
    rw be_more (omega (arith, x, c.loop-i.invariant))

pub of-requires : goal.of-requires
of-requires g c =
    let same : c.loop-i.i ≡ g.T.Number.WIDTH = omega (arith, c.loop-i-test.false, c.loop-i.auto.i-end, c.WIDTH-i-end.ensures) in
    rw (← same) (omega (arith, c.loop-i.invariant, be_fits c.args.octets.now 0 c.loop-i.i c.type_inv.octets))
