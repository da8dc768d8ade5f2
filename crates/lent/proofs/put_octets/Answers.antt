-- The octets stand in the part that they were copied to.
use Rattle.std.proofs.Common.{◌+◌, length, refl, arith}
use Rattle.lent.proofs.Lent.{part_placed}
use Rattle.lent.proofs.put_octets.Goals as goal

pub returns : goal.returns
returns c = record {
  there = part_placed c.args.out.now c.args.at (c.args.at + length c.args.s.now) _ c.args.s.now c.copy_from_slice.ensures.after refl;
  past = refl;
  inside = omega (arith, c.requires);
}
