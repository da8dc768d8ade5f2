-- The part that every grid has, then one `both` for each rule of this one.
use Rattle.rules.specs.Rules.{meets_all, grid_rules}
use Rattle.base_format.specs.Rules.{scan_rules, rules3}
use mathlib.Core.Path.{sym, ◌∙◌}
use Rattle.rules.proofs.Chains.{both, flat, meets_append}
use Rattle.base_format.proofs.fields3.Goals as goal

pub returns : goal.returns
unfolding rules3
returns c = (both (both c.grid_fields.ensures
    c.within.ensures)
    c.within-2.ensures)
    ∙ flat (meets_all c.args.s.now c.args.at (grid_rules 50120)) c.args.s.now c.args.at scan_rules
    ∙ sym (meets_append c.args.s.now c.args.at (grid_rules 50120) scan_rules)
