-- `fits` meets its contract: the octets from the record's offset on have it at their front.
use mathlib.Core.Path.{sym, ap, ◌∙◌}
use mathlib.Core.List.{List}
use Prim.Native.Nat.{ℕ}
use native.Mathlib.Omega.{arith}
use Rattle.index.specs.Index.{usable}
use Rattle.lent.proofs.Lent.{to_end}
use Rattle.index.proofs.Usable.{usable_outside, usable_from}
use Rattle.index.proofs.fits.Goals as goal

pub returns-then-octets-at : goal.returns-then-octets-at
returns-then-octets-at c = sym (usable_outside c.args.v c.args.nb c.args.octets.now c.args.rec c.if-octets-at.true)

pub returns : goal.returns
returns c = let part = to_end c.args.octets.now c.args.rec.offset in
    c.fits_in.ensures ∙ ap (λ (l : List ℕ). usable c.args.v c.args.nb l (record { offset = 0; before = c.args.rec.before })) part
    ∙ usable_from c.args.v c.args.nb c.args.octets.now c.args.rec (omega (arith, c.if-octets-at.false))
