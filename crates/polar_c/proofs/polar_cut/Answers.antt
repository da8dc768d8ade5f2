-- The words put are those of cut's answer.
use mathlib.Core.Path.{sym}
use Rattle.c_words.proofs.Fits.{cut_info_fits}
use Rattle.polar_c.proofs.polar_cut.Goals as goal

pub put_cut-requires : goal.put_cut-requires
put_cut-requires c =
    rw c.cut_info.ensures.answer (cut_info_fits _ _)

pub returns : goal.returns
returns c =
    let e = sym c.cut_info.ensures.answer in
    record { returned = rw e c.put_cut.ensures.value; answered = rw e c.put_cut.ensures.words_after }
