-- The words put are those of stretches' answer at the threshold as it was handed in, and the list is left so.
use mir.Syntax.{w32, w64}
use mir.ValLaws.{to_z-of_z}
use mathlib.Core.Path.{sym, ◌∙◌}
use Rattle.c_words.proofs.Fits.{stretches_fits}
use lib.ListN.{length}
use Rattle.c_words.specs.Arguments.{narrow_threshold}
use Rattle.c_words.proofs.Arguments.{narrow_fits, stretch_narrow, words_narrow}
use Rattle.polar_c.proofs.polar_stretches.Goals as goal

pub put_stretches-requires : goal.put_stretches-requires
put_stretches-requires c =
    rw c.stretches.ensures.answer (stretches_fits _ _ _ _ _ _)

pub returns : goal.returns
returns c =
    let narrow = rw (to_z-of_z w64 c.args.t c.ranges.t) at c.narrow_threshold-threshold.ensures in
    let back = to_z-of_z w32 (narrow_threshold c.args.t) (narrow_fits c.args.t) in
    let e = rw (narrow, back) at c.stretches.ensures.answer ∙ stretch_narrow c.args.file.now c.args.cut c.args.t c.args.ray c.args.bin (length c.args.words.now) in
    let h = rw (narrow, back, e) at c.stretches.ensures.after ∙ words_narrow c.args.file.now c.args.cut c.args.t c.args.ray c.args.bin c.args.words.now in
    record { returned = rw (sym e) c.put_stretches.ensures.value; held = h; answered = rw (sym e) c.put_stretches.ensures.words_after }
