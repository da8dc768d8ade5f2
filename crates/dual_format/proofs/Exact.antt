-- THE THEOREM: `verdict` accepts exactly the files of `Accepted` and refuses exactly those of `RefusedBy`: that of every format, for dual-polarisation files.
use Rattle.sections.specs.Exact.{Exact}
use Rattle.sections.proofs.Exact as E
use Rattle.dual_format.specs.Checks.{dual_checks}
use Rattle.dual_format.specs.Accepted.{dual_format}
use Rattle.dual_format.proofs.Says.{says}

pub exact : Exact dual_checks dual_format
exact = E.exact dual_checks dual_format says
