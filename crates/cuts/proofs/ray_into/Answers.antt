-- A ray's bins lie among all bins.
use Rattle.cuts.specs.Bins.{bins_from, ray_in}
use Rattle.lent.specs.Lent.{front}
use Prim.Native.Nat.{◌*◌}
use mathlib.Core.Path.{◌∙◌}
use Rattle.cuts.proofs.ray_into.Goals as goal

pub returns : goal.returns
unfolding ray_in
returns c = c.bins_into.ensures ∙ (λ i. front (bins_from c.args.file.now c.args.c (c.args.ray * c.bins_in-nb.ensures i) (c.bins_in-nb.ensures i)) c.args.out.now)
