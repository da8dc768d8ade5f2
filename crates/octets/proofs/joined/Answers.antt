-- One octet more at each turn.
use Rattle.std.proofs.Common.{◌≡◌, length, refl, arith}
use Rattle.octets.specs.Octets.{be}
use Rattle.octets.proofs.Laws.{be_more, be_fits, more_fits}
use Rattle.octets.proofs.joined.Goals as goal

pub loop-octet-init : goal.loop-octet-init
unfolding be
loop-octet-init c = refl

pub overflow_mul-n : goal.overflow_mul-n
overflow_mul-n c = let m = more_fits c.args.octets.now 0 c.loop-octet.octet-index c.type_inv.octets (omega arith) in record { fits = omega (arith, c.loop-octet.invariant) }

pub overflow_add-n : goal.overflow_add-n
overflow_add-n c = let m = more_fits c.args.octets.now 0 c.loop-octet.octet-index c.type_inv.octets (omega arith) in
    let x = (c.type_inv.octets c.loop-octet.octet-index).fits in
    record { fits = omega (arith, c.loop-octet.invariant, c.from.ensures) }

pub loop-octet-preserved : goal.loop-octet-preserved
loop-octet-preserved c = rw be_more (omega (arith, c.loop-octet.invariant, c.from.ensures))

pub returns-clause-fits : goal.returns-clause-fits
returns-clause-fits c = let same : c.loop-octet.octet-index ≡ length c.args.octets.now = omega arith in rw (← same) (omega (arith, c.loop-octet.invariant, be_fits c.args.octets.now 0 c.loop-octet.octet-index c.type_inv.octets))
