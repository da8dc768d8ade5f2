-- One `both` for each rule; `flat` turns the chain that the code tests into the list of rules.
use mathlib.Core.Bool.{true}
use Rattle.rules.specs.Rules.{rules6}
use mathlib.Core.Path.{◌∙◌}
use Rattle.rules.proofs.Chains.{flat}
use Rattle.rules.proofs.fields6.Goals as goal

pub returns : goal.returns
unfolding rules6
returns c = c.within.ensures
    ∙ flat true c.args.s.now c.args.at rules6
