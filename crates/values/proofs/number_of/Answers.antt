-- By cases on the reading.
use mir.Syntax.{w32}
use mir.Facts.{to_z-of_z}
use mathlib.Core.Path.{◌∙◌, sym, ap}
use Rattle.values.specs.Inner.{number_of}
use borrow.Author.Rules.{rules}
use Rattle.values.proofs.number_of.Goals as goal

pub returns-in-Missing : goal.returns-in-Missing
unfolding number_of
returns-in-Missing c = sym (ap number_of c.in-Missing.is)

pub returns-in-Number : goal.returns-in-Number
unfolding number_of
returns-in-Number c = to_z-of_z {w = w32} {z = c.in-Number.z} (search rules) ∙ sym (ap number_of c.in-Number.is)
