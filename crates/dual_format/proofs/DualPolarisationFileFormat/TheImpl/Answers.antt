-- Of a 7 the format's checks are those that the method names.
use Rattle.std.proofs.Common.{rules}
use Rattle.dual_format.specs.Checks.{dual_checks}
use Rattle.dual_format.proofs.DualPolarisationFileFormat.TheImpl.Goals as goal

pub judge7-tells : goal.judge7-tells
unfolding dual_checks
judge7-tells c = search rules
