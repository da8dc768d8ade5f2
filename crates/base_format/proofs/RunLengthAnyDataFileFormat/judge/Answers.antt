-- The sections other than a 7 have the same checks whatever the data.
use Rattle.base_format.proofs.Held.{any_like}
use Rattle.base_format.proofs.RunLengthAnyDataFileFormat.judge.Goals as goal

pub returns : goal.returns
returns c = rw (any_like c.args.s.now c.args.x c.args.at c.args.n c.requires.fact) c.judge.ensures
