-- One `both` for each rule; `flat` turns the chain that the code tests into the list of rules.
use mathlib.Core.Bool.{true}
use Rattle.dual_format.specs.Rules.{rules4}
use mathlib.Core.Path.{◌∙◌}
use Rattle.rules.proofs.Chains.{both, flat}
use Rattle.dual_format.proofs.fields4.Goals as goal

pub returns : goal.returns
unfolding rules4
returns c = (both (both (both (both (both (both (both (both (both (both c.within.ensures
    c.within-2.ensures)
    c.within-3.ensures)
    c.within-4.ensures)
    c.within-5.ensures)
    c.within-6.ensures)
    c.mode_ok.ensures)
    c.within-7.ensures)
    c.within-8.ensures)
    c.within-9.ensures)
    c.within-10.ensures)
    ∙ flat true c.args.s.now c.args.at (rules4 c.args.parameter c.args.site)
