-- Field by field.
use Rattle.walks.proofs.context_in.Goals as goal

pub returns : goal.returns
returns c = rw c.first_in.ensures
