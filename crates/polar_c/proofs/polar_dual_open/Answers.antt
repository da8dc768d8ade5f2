-- The words put are those of open's answer.
use mathlib.Core.Path.{sym}
use Rattle.c_words.proofs.Fits.{dual_open_fits}
use Rattle.polar_c.proofs.polar_dual_open.Goals as goal

pub put_dual_open-requires : goal.put_dual_open-requires
put_dual_open-requires c =
    rw c.open.ensures (dual_open_fits _)

pub returns : goal.returns
returns c =
    let e = sym c.open.ensures in
    record { returned = rw e c.put_dual_open.ensures.value; answered = rw e c.put_dual_open.ensures.words_after }
