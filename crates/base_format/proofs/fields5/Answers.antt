-- One `both` for each rule; `flat` turns the chain that the code tests into the list of rules.
use mathlib.Core.Bool.{true}
use Rattle.base_format.specs.Rules.{rules5}
use mathlib.Core.Path.{◌∙◌}
use Rattle.rules.proofs.Chains.{both, flat}
use Rattle.base_format.proofs.fields5.Goals as goal

pub returns : goal.returns
unfolding rules5
returns c = (both (both (both (both c.within.ensures
    c.within-2.ensures)
    c.within-3.ensures)
    c.within-4.ensures)
    c.within-5.ensures)
    ∙ flat true c.args.s.now c.args.at (rules5 c.args.m)
