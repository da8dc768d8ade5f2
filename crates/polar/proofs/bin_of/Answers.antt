-- By cases on the reading.
use Rattle.fraction.specs.Quotient.{hundredths}
use mir.ValLaws.{to_z-of_z}
use mir.Syntax.{w32}
use Rattle.polar.specs.Rays.{bin_of}
use mathlib.Core.Path.{sym, ◌∙◌, ap}
use borrow.Author.Rules.{rules}
use Rattle.polar.proofs.bin_of.Goals as goal
use Rattle.std.specs.Prelude.{Some}

pub returns-in-Missing : goal.returns-in-Missing
unfolding bin_of
returns-in-Missing c = ap bin_of (sym c.in-Missing.is)

pub returns-in-Number : goal.returns-in-Number
unfolding bin_of
returns-in-Number c = ap Some ((c.hundredths_of.ensures ∙ ap hundredths (to_z-of_z w32 c.in-Number.z (search rules)))) ∙ sym (ap bin_of c.in-Number.is)
