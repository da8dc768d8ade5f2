-- One `both` for each rule; `flat` turns the chain that the code tests into the list of rules.
use mathlib.Core.Bool.{true}
use Rattle.rules.specs.Rules.{rules8}
use mathlib.Core.Path.{◌∙◌}
use Rattle.rules.proofs.Chains.{flat}
use Rattle.rules.proofs.fields8.Goals as goal

pub returns : goal.returns
unfolding rules8
returns c = c.within.ensures
    ∙ flat true c.args.s.now c.args.at rules8
