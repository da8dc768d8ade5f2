-- Nb x Nr, each as read.
use Rattle.rules.specs.Fields.{points_at, bins_at, rays_at}
use Rattle.rules.proofs.points_at.Goals as goal

pub returns : goal.returns
unfolding points_at bins_at rays_at
returns c = cc
