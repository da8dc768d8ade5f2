-- Level 0 is missing; any other level has the value that the table gives.
use borrow.Author.Tests.{eq-eqb, ne_eqb}
use Rattle.values.specs.declared.Reading.TheVariants.{Number}
use mir.Syntax.{w32}
use mir.Facts.{to_z-of_z}
use mathlib.Core.Path.{◌∙◌, ap}
use Rattle.values.specs.Reading.{reading_of}
use borrow.Author.Rules.{rules}
use Rattle.values.proofs.reading_of.Goals as goal

pub returns-then-level-eq0 : goal.returns-then-level-eq0
unfolding reading_of
returns-then-level-eq0 c = simp (eq-eqb _ _ c.if-level-eq0.true)

pub returns : goal.returns
unfolding reading_of
returns c = simp (ne_eqb _ _ c.if-level-eq0.false) (ap Number (to_z-of_z {w = w32} {z = c.value_in.result} (search rules) ∙ c.value_in.ensures))
