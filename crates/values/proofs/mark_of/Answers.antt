-- By cases on the reading.
use mathlib.Core.Path.{sym, ap}
use Rattle.values.specs.Reading.{mark_of}
use Rattle.values.proofs.mark_of.Goals as goal

pub returns-in-Missing : goal.returns-in-Missing
unfolding mark_of
returns-in-Missing c = sym (ap mark_of c.in-Missing.is)

pub returns-in-Number : goal.returns-in-Number
unfolding mark_of
returns-in-Number c = sym (ap mark_of c.in-Number.is)
