-- What the two callees promise, one after the other.
use Rattle.base_format.specs.Parts.{product_of, product_in}
use Rattle.rules.specs.Fields.{parameter_at}
use mathlib.Core.Path.{◌∙◌, ap}
use Rattle.base_format.proofs.product_in.Goals as goal

-- src/lib.rt:138:1
pub returns : goal.returns
unfolding product_in parameter_at
returns c = c.product_of.ensures ∙ ap product_of c.parameter_at.ensures
