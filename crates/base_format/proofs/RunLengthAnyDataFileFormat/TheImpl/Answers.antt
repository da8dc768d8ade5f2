-- Of a 7 the format's checks are those that the method names.
use Rattle.std.proofs.Common.{rules}
use Rattle.base_format.specs.Checks.{any_data_checks}
use Rattle.base_format.proofs.RunLengthAnyDataFileFormat.TheImpl.Goals as goal

pub judge7-tells : goal.judge7-tells
unfolding any_data_checks
judge7-tells c = search rules
