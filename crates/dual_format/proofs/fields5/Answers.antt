-- One `both` for each rule; `flat` turns the chain that the code tests into the list of rules.
use mathlib.Core.Bool.{true}
use Rattle.dual_format.specs.Rules.{rules5}
use mathlib.Core.Path.{◌∙◌}
use Rattle.rules.proofs.Chains.{both, flat}
use Rattle.dual_format.proofs.fields5.Goals as goal

pub returns : goal.returns
unfolding rules5
returns c = (both (both c.within.ensures
    c.within-2.ensures)
    c.within-3.ensures)
    ∙ flat true c.args.s.now c.args.at rules5
