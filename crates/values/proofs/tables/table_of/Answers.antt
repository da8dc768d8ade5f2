-- Each table is the list of its rule: computed once, over the whole of it.
use mathlib.Core.Path.{refl}
use Rattle.values.specs.Published.{table_of}
use Rattle.values.proofs.tables.table_of.Goals as goal

pub returns-in-Reflectivity : goal.returns-in-Reflectivity
unfolding table_of
returns-in-Reflectivity c = rw c.in-Reflectivity.is refl

pub returns-in-Velocity : goal.returns-in-Velocity
unfolding table_of
returns-in-Velocity c = rw c.in-Velocity.is refl
