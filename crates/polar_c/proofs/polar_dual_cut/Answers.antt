-- The words put are those of cut's answer.
use mathlib.Core.Path.{sym}
use Rattle.c_words.proofs.Fits.{dual_cut_fits}
use Rattle.polar_c.proofs.polar_dual_cut.Goals as goal

pub put_dual_cut-requires : goal.put_dual_cut-requires
put_dual_cut-requires c =
    rw c.cut_info.ensures (dual_cut_fits _ _)

pub returns : goal.returns
returns c =
    let e = sym c.cut_info.ensures in
    record { returned = rw e c.put_dual_cut.ensures.value; answered = rw e c.put_dual_cut.ensures.words_after }
