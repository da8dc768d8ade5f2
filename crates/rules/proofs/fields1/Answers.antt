-- One `both` for each rule; `flat` turns the chain that the code tests into the list of rules.
use mathlib.Core.Bool.{true}
use Rattle.rules.specs.Rules.{rules1}
use mathlib.Core.Path.{◌∙◌}
use Rattle.rules.proofs.Chains.{both, flat}
use Rattle.rules.proofs.fields1.Goals as goal

pub returns : goal.returns
unfolding rules1
returns c = (both (both (both (both (both (both (both (both (both (both c.within.ensures
    c.within-2.ensures)
    c.within-3.ensures)
    c.within-4.ensures)
    c.within-5.ensures)
    c.within-6.ensures)
    c.within-7.ensures)
    c.within-8.ensures)
    c.within-9.ensures)
    c.within-10.ensures)
    c.within-11.ensures)
    ∙ flat true c.args.s.now c.args.at rules1
