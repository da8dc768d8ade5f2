-- By cases on the reading.
use mathlib.Core.Path.{sym, ap}
use Rattle.values.specs.Inner.{numbered_to}
use Rattle.values.specs.declared.Reading.{Reading}
use Rattle.values.proofs.numbered_to.Goals as goal

pub returns-in-Missing : goal.returns-in-Missing
unfolding numbered_to
returns-in-Missing c = sym (ap (λ (q : Reading). numbered_to q c.args.lo c.args.hi) c.in-Missing.is)

pub returns-in-Number : goal.returns-in-Number
unfolding numbered_to
returns-in-Number c = sym (ap (λ (q : Reading). numbered_to q c.args.lo c.args.hi) c.in-Number.is)
