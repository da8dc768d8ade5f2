-- What an accepted file says of each of its cuts: the facts that a call goes by once a walk has accepted. (Proved in proofs/GoodCuts.antt.)
use Rattle.std.specs.Prelude.{ℕ, ◌+◌, ◌*◌, ◌/◌, ◌≤◌, ◌≡◌, List, length}
use Rattle.rules.specs.Fields.{length_at}
use Rattle.scaled.specs.Scaled.{Packing}
use Rattle.sections.specs.Parts.{bins_in, rays_in}
use Rattle.sections.specs.declared.Cut.{Cut}
use Rattle.dual_format.specs.Parts.{reference_in, binary_scale_in, decimal_scale_in, width_in}

pub record GoodCut (s : List ℕ) (c : Cut) : Type 0 where
  pub bins_few : bins_in s c ≤ 2048
  pub rays_few : rays_in s c ≤ 1024
  pub packing : Packing (reference_in s c) (binary_scale_in s c) (decimal_scale_in s c) (width_in s c)
  -- the cells are all there, and lie in the file
  pub cells : length_at s c.section7 ≡ 5 + rays_in s c * bins_in s c * (width_in s c / 8)
  pub inside : c.section7 + length_at s c.section7 ≤ length s
