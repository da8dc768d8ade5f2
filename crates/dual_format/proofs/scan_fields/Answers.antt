-- One `both` for each rule; `flat` turns the chain that the code tests into the list of rules.
use mathlib.Core.Bool.{true}
use Rattle.dual_format.specs.Rules.{scan_rules}
use mathlib.Core.Path.{◌∙◌}
use Rattle.rules.proofs.Chains.{both, flat}
use Rattle.dual_format.proofs.scan_fields.Goals as goal

pub returns : goal.returns
unfolding scan_rules
returns c = (both c.within.ensures
    c.within-2.ensures)
    ∙ flat true c.args.s.now c.args.at scan_rules
