-- Every level passed has its kind at its place.
use Rattle.values.specs.declared.Reading.{Reading}
use Rattle.lent.proofs.Filled.{filled_more}
use mathlib.Core.Path.{◌∙◌, ap}
use native.Mathlib.Omega.{arith}
use Rattle.kinds.specs.KindTable.{kind_number}
use lib.ListN.{length-set}
use lib.IntN.{ℤ}
use mir.Syntax.{w32}
use mir.Val.{to_z, of_z}
use mir.Facts.{to_z-of_z}
use Rattle.values.specs.Reading.{reading_of, kind_of}
use Rattle.values.proofs.Published.{count_le}
use Rattle.values.proofs.kinds_by.Goals as goal

pub overflow_cast-level : goal.overflow_cast-level
overflow_cast-level c = omega (arith, count_le c.args.product)

pub offset_bounds-numbers-level : goal.offset_bounds-numbers-level
offset_bounds-numbers-level c = omega (arith, count_le c.args.product)

pub bounds-numbers-level : goal.bounds-numbers-level
bounds-numbers-level c = omega (arith, count_le c.args.product)

pub loop-level-preserved : goal.loop-level-preserved
loop-level-preserved c = (
  simp length-set c.loop-level.invariant.0,
  filled_more c.loop-level.numbers (λ k. kind_number (kind_of (reading_of c.args.product k) (to_z w32 (of_z w32 c.args.t)))) c.loop-level.level _ (omega (arith, count_le c.args.product))
      c.loop-level.invariant.1 (c.number_of.ensures ∙ ap kind_number (c.kind_of.ensures ∙ ap (λ (r : Reading). kind_of r (to_z w32 (of_z w32 c.args.t))) c.reading_of.ensures)),
)

pub returns-2 : goal.returns-2
returns-2 c = λ l h.
    filled_more c.loop-level.numbers (λ k. kind_number (kind_of (reading_of c.args.product k) (to_z w32 (of_z w32 c.args.t)))) c.loop-level.level _ (omega (arith, count_le c.args.product))
    c.loop-level.invariant.1 (c.number_of.ensures ∙ ap kind_number (c.kind_of.ensures ∙ ap (λ (r : Reading). kind_of r (to_z w32 (of_z w32 c.args.t))) c.reading_of.ensures))
    l (omega arith)
    ∙ ap (λ (z : ℤ). kind_number (kind_of (reading_of c.args.product l) z)) (to_z-of_z c.ranges.t)
