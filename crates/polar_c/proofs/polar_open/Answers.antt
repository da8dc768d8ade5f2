-- The words put are those of open's answer.
use mathlib.Core.Path.{sym}
use Rattle.c_words.proofs.Fits.{open_fits}
use Rattle.polar_c.proofs.polar_open.Goals as goal

pub put_open-requires : goal.put_open-requires
put_open-requires c =
    rw c.open.ensures.answer (open_fits _)

pub returns : goal.returns
returns c =
    let e = sym c.open.ensures.answer in
    record { returned = rw e c.put_open.ensures.value; answered = rw e c.put_open.ensures.words_after }
