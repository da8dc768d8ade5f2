-- The table of kinds agrees with the scale on every level of the data, so the list is the same.
use mathlib.Core.Path.{ap, ◌∙◌}
use Prim.Native.Nat.{◌+◌, ◌*◌}
use native.Mathlib.Omega.{arith}
use lib.IntN.{ℤ}
use mir.Syntax.{w32}
use mir.ValLaws.{to_z-of_z}
use Rattle.kinds.specs.KindTable.{kind_number}
use Rattle.values.specs.Reading.{reading_of, kind_of}
use Rattle.values.specs.Inner.{KindsBy}
use Rattle.stretches.proofs.Points.{point_small}
use Rattle.stretches.proofs.SameKinds.{table_listed}
use Rattle.stretches.proofs.list_from.Goals as goal

pub overflow_mul-ray : goal.overflow_mul-ray
overflow_mul-ray c = omega (arith, point_small c.args.nb c.args.nr c.args.ray c.args.bin c.requires.v_bound.1 c.requires.cut_data.nb_pos c.requires.cut_data.nb_le c.requires.cut_data.nr_le)

pub overflow_add-ray : goal.overflow_add-ray
overflow_add-ray c = omega (arith, point_small c.args.nb c.args.nr c.args.ray c.args.bin c.requires.v_bound.1 c.requires.cut_data.nb_pos c.requires.cut_data.nb_le c.requires.cut_data.nr_le)

pub returns : goal.returns
returns c = let k : KindsBy c.args.product c.args.t c.kinds_by-kinds.result = λ l h. c.kinds_by-kinds.ensures l h ∙ ap (λ (z : ℤ). kind_number (kind_of (reading_of c.args.product l) z)) (to_z-of_z w32 c.args.t c.ranges.t) in record { value = rw (← table_listed c.args.product c.args.t c.kinds_by-kinds.result c.args.v c.args.octets.now c.args.nb c.args.nr (c.args.ray * c.args.nb + c.args.bin) k c.requires.v_bound.0) c.list_by.ensures.value; out_after = rw (← table_listed c.args.product c.args.t c.kinds_by-kinds.result c.args.v c.args.octets.now c.args.nb c.args.nr (c.args.ray * c.args.nb + c.args.bin) k c.requires.v_bound.0) c.list_by.ensures.out_after }
