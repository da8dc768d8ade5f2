-- What was sought, by what the walk answered.
use Rattle.octets.proofs.Exits.{passed_on}
use Rattle.calls.proofs.Finding.{sought_walked, sought_refused}
use mathlib.Core.Path.{sym, ◌∙◌}
use Rattle.calls.proofs.find.Goals as goal

pub returns-in_err-walk : goal.returns-in_err-walk
returns-in_err-walk g c = passed_on _ _ c.from_residual.ensures.1 ∙ sought_refused c.args.i _ _ (sym c.walk.ensures ∙ c.in_err-walk.was)

pub returns : goal.returns
returns g c = c.sought_by.ensures ∙ sought_walked c.args.i _ _ (sym c.walk.ensures ∙ c.in_ok-walk.was)
