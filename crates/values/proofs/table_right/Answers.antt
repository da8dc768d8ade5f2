-- The table that the octets are compared with is the product's.
use mathlib.Core.Path.{◌∙◌, ap}
use mathlib.Core.List.{List}
use lib.IntN.{ℤ}
use Rattle.octets.specs.Octets.{same}
use Rattle.values.specs.Table.{octets_of, table_octets, table_right}
use Rattle.values.proofs.Octets.{tables_writable}
use Rattle.values.proofs.table_right.Goals as goal

pub right_in-requires : goal.right_in-requires
right_in-requires c = rw c.table_of.ensures (tables_writable c.args.product)

pub returns : goal.returns
unfolding table_right table_octets
returns c = c.right_in.ensures ∙ ap (λ (l : List ℤ). same c.args.octets.now (octets_of l)) c.table_of.ensures
