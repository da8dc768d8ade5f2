-- The words put are those of the house form's answer, and the list is left as it left it.
use mathlib.Core.Path.{sym}
use Rattle.c_words.proofs.Fits.{stretches_fits}
use Rattle.polar_c.proofs.polar_house_stretches.Goals as goal

pub put_stretches-requires : goal.put_stretches-requires
put_stretches-requires c =
    rw c.house_stretches.ensures.answer (stretches_fits _ _ _ _ _ _)

pub returns : goal.returns
returns c =
    let e = sym c.house_stretches.ensures.answer in
    record { returned = rw e c.put_stretches.ensures.value; held = rw e c.house_stretches.ensures.after; answered = rw e c.put_stretches.ensures.words_after }
