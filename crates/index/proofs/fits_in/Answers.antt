-- `fits_in` meets its contract: by the run at the front, and whether the bins reach far enough.
use mathlib.Core.Path.{sym, ◌∙◌}
use native.Mathlib.Omega.{arith}
use Rattle.index.proofs.Usable.{longer_opens, longer_usable, shorter_usable}
use Rattle.index.proofs.fits_in.Goals as goal

pub returns-then-not-longer : goal.returns-then-not-longer
returns-then-not-longer c = sym (shorter_usable c.args.v c.args.nb c.args.octets.now c.args.before (sym c.longer.ensures ∙ c.if-not-longer.true))

pub reaches-requires : goal.reaches-requires
reaches-requires c = (omega arith, omega arith, longer_opens c.args.v c.args.nb c.args.octets.now c.args.before (sym c.longer.ensures ∙ c.if-not-longer.false))

pub returns : goal.returns
returns c = c.reaches.ensures ∙ sym (longer_usable c.args.v c.args.nb c.args.octets.now c.args.before (sym c.longer.ensures ∙ c.if-not-longer.false))
