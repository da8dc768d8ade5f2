-- The table's entry at level - 1 is the published value, by the rule that lists the table.
use Rattle.values.proofs.Published.{table_within, value_read}
use borrow.Author.Rules.{rules}
use Rattle.values.proofs.value_in.Goals as goal

pub bounds-table-level : goal.bounds-table-level
bounds-table-level c = table_within c.args.product _ c.args.level c.table_of-table.ensures c.requires.0 c.requires.1

pub returns : goal.returns
returns c = value_read c.args.product _ c.args.level c.table_of-table.ensures c.requires.0 c.requires.1 (search rules)
