-- What is returned is the call's answer, and the row that was lent is left as the call left it.
use Rattle.std.proofs.Common.{sym}
use Rattle.c_words.proofs.Fits.{build_fits}
use Rattle.polar_c.proofs.polar_build_index.Goals as goal

pub ray_return-requires : goal.ray_return-requires
ray_return-requires c = rw c.build_index-built.ensures.answer (build_fits _ _ _)

pub returns : goal.returns
returns c =
    let e = sym c.build_index-built.ensures.answer in
    record { returned = rw e c.ray_return.ensures; held = rw e c.build_index-built.ensures.after }
