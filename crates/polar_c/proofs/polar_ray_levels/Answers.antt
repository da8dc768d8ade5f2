-- What is returned is the call's answer, and what was lent is left as the call left it.
use mathlib.Core.Path.{sym}
use Rattle.c_words.proofs.Fits.{ray_fits}
use Rattle.polar_c.proofs.polar_ray_levels.Goals as goal

pub ray_return-requires : goal.ray_return-requires
ray_return-requires c =
    rw c.ray_levels.ensures.answer (ray_fits _ _ _ _)

pub returns : goal.returns
returns c =
    let e = sym c.ray_levels.ensures.answer in
    record { returned = rw e c.ray_return.ensures; held = rw e c.ray_levels.ensures.after }
