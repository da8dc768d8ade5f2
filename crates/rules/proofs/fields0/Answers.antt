-- One `both` for each rule; `flat` turns the chain that the code tests into the list of rules.
use mathlib.Core.Bool.{true}
use Rattle.rules.specs.Rules.{rules0}
use mathlib.Core.Path.{◌∙◌}
use lib.ListN.{length}
use Rattle.rules.proofs.Chains.{both, flat}
use Rattle.rules.proofs.fields0.Goals as goal

pub returns : goal.returns
unfolding rules0
returns c = (both (both (both c.within.ensures
    c.within-2.ensures)
    c.within-3.ensures)
    c.within-4.ensures)
    ∙ flat true c.args.s.now 0 (rules0 (length c.args.s.now))
