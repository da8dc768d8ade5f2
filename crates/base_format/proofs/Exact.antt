-- THE THEOREM: `verdict` accepts exactly the files of `Accepted` and refuses exactly those of `RefusedBy`: that of every format, for run-length packed files.
use Rattle.sections.specs.Exact.{Exact}
use Rattle.sections.proofs.Exact as E
use Rattle.base_format.specs.Checks.{base_checks, any_data_checks}
use Rattle.base_format.specs.Accepted.{base_format, any_data_format}
use Rattle.base_format.proofs.Says.{says, any_says}

pub exact : Exact base_checks base_format
exact = E.exact base_checks base_format says

pub any_exact : Exact any_data_checks any_data_format
any_exact = E.exact any_data_checks any_data_format any_says
