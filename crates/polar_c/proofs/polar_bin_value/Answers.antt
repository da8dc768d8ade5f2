-- The words put are those of bin value's answer.
use mathlib.Core.Path.{sym}
use Rattle.c_words.proofs.Fits.{bin_fits}
use Rattle.polar_c.proofs.polar_bin_value.Goals as goal

pub put_bin-requires : goal.put_bin-requires
put_bin-requires c =
    rw c.bin_value.ensures.answer (bin_fits _ _ _ _)

pub returns : goal.returns
returns c =
    let e = sym c.bin_value.ensures.answer in
    record { returned = rw e c.put_bin.ensures.value; held = rw e c.put_bin.ensures.value_after; answered = rw e c.put_bin.ensures.words_after }
