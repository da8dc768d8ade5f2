-- `carry` meets its contract: octets put at place 0 stand at the front.
use mathlib.Core.Path.{◌∙◌}
use native.Mathlib.Nat.{zero-add}
use Rattle.lent.specs.Lent.{placed}
use Rattle.index.proofs.carry.Goals as goal

pub returns : goal.returns
unfolding placed
returns c = c.put_octets.ensures.there ∙ simp zero-add
