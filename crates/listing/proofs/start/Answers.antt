-- `start` meets its contract: a file that is too long, an accepted one, a refused one.
use mathlib.Core.Path.{sym, ◌∙◌}
use native.Mathlib.Omega.{arith}
use Rattle.listing.specs.Progress.{Sound}
use Rattle.listing.proofs.Starting.{too_long, refused_first, head_first}
use Rattle.sections.specs.Refusal.{refuse}
use Rattle.listing.proofs.start.Goals as goal

pub returns-then-file-gt-LARGEST : goal.returns-then-file-gt-LARGEST
unfolding Sound refuse
returns-then-file-gt-LARGEST c = record { result_value = rw c.refuse.ensures (too_long c.args.file.now c.if-file-gt-LARGEST.true); by_index = λ ws. tt }

pub returns-in-Ok : goal.returns-in-Ok
returns-in-Ok c = let whole = head_first c.args.file.now c.in-Ok.found c.cut_begun.result c.cut_begun.ensures (omega arith) (sym c.walk.ensures ∙ c.in-Ok.is) in record { result_value = whole.0; by_index = whole.1 }

pub returns-in-Err : goal.returns-in-Err
unfolding Sound
returns-in-Err c = record { result_value = refused_first c.args.file.now c.in-Err.refusal (omega arith) (sym c.walk.ensures ∙ c.in-Err.is); by_index = λ ws. tt }
