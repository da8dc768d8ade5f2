-- What is returned is the call's answer, and what was lent is left as the call left it.
use mathlib.Core.Path.{sym}
use Rattle.c_words.proofs.Fits.{from_fits}
use Rattle.polar_c.proofs.polar_ray_values_from.Goals as goal

pub ray_return-requires : goal.ray_return-requires
ray_return-requires c =
    rw c.ray_values_from.ensures.answer (from_fits _ _ _ _ _)

pub returns : goal.returns
returns c =
    let e = sym c.ray_values_from.ensures.answer in
    record { returned = rw e c.ray_return.ensures; marked = rw e c.ray_values_from.ensures.marked; held = rw e c.ray_values_from.ensures.valued }
