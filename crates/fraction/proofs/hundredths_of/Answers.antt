-- One division by 100, as the machine works it out, is the definition.
use Rattle.fraction.proofs.Hundredths.{worked_out}
use Rattle.fraction.proofs.hundredths_of.Goals as goal

pub returns : goal.returns
returns c = worked_out c.args.z c.ranges.z
