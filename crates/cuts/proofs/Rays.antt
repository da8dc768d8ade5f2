-- A ray of a good cut has Nb levels, and its bin b is demand 2's bin: level r x Nb + b.
use Prim.Native.Nat.{ℕ, ◌*◌, ◌<◌}
use mathlib.Core.Path.{◌≡◌, ◌∙◌}
use mathlib.Core.List.{List}
use native.Mathlib.Omega.{arith}
use lib.ListN.{length, get_or, drop, length-drop}
use lib.Seq.{length-take-le, get_or-take, get_or-drop}
use Rattle.sections.specs.Parts.{bins_in, rays_in}
use Rattle.base_format.specs.Parts.{levels_in, level_in}
use Rattle.base_format.specs.Good.{GoodCut}
use Rattle.sections.specs.declared.Cut.{Cut}
use Rattle.cuts.specs.Bins.{bins_from, ray_in}
use Rattle.cuts.proofs.Places.{all_bins, ray_inside}

module _ (s : List ℕ) (c : Cut) (g : GoodCut s c) (ray : ℕ) (h : ray < rays_in s c) where
  pub ray_length : length (ray_in s c ray) ≡ bins_in s c
  unfolding ray_in bins_from
  ray_length =
      let all = all_bins s c g in
      let inside = ray_inside ray (rays_in s c) (bins_in s c) h in
      length-take-le (bins_in s c) (drop (ray * bins_in s c) (levels_in s c)) (rw length-drop (omega arith))

  pub ray_bin : (b : ℕ) → b < bins_in s c → get_or (ray_in s c ray) b 0 ≡ level_in s c ray b
  unfolding ray_in bins_from level_in
  ray_bin b k =
      get_or-take (bins_in s c) (drop (ray * bins_in s c) (levels_in s c)) b 0 k
      ∙ get_or-drop (ray * bins_in s c) (levels_in s c) b 0
