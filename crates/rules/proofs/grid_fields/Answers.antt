-- One `both` for each rule; `flat` turns the chain that the code tests into the list of rules.
use mathlib.Core.Bool.{true}
use Rattle.rules.specs.Rules.{grid_rules}
use mathlib.Core.Path.{◌∙◌}
use Rattle.rules.proofs.Chains.{both, flat}
use Rattle.rules.proofs.grid_fields.Goals as goal

pub returns : goal.returns
returns c = (both (both (both (both (both (both (both (both c.within.ensures
    c.within-2.ensures)
    c.within-3.ensures)
    c.within-4.ensures)
    c.within-5.ensures)
    c.within-6.ensures)
    c.magnitude.ensures)
    c.within-7.ensures)
    c.within-8.ensures)
    ∙ flat true c.args.s.now c.args.at (grid_rules c.args.template)
