-- R is a number, and the powers that scale it are those of the definition.
use Rattle.scaled.specs.Scaled.{scaled_value}
use Rattle.scaled.proofs.Single.{bits_number}
use Rattle.scaled.proofs.unpack.Goals as goal

pub float_from_bits-r : goal.float_from_bits-r
float_from_bits-r c = bits_number c.args.bits c.requires.0

pub returns : goal.returns
unfolding scaled_value
returns c = rw (c.two_to.ensures, c.ten_to-p.ensures)
