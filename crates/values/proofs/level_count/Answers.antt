-- Each product's number of levels, by its case.
use mathlib.Core.Path.{sym, ap}
use Rattle.values.specs.Published.{level_count}
use Rattle.values.proofs.level_count.Goals as goal

pub returns-in-Reflectivity : goal.returns-in-Reflectivity
unfolding level_count
returns-in-Reflectivity c = sym (ap level_count c.in-Reflectivity.is)

pub returns-in-Velocity : goal.returns-in-Velocity
unfolding level_count
returns-in-Velocity c = sym (ap level_count c.in-Velocity.is)
