-- What an accepted file says of each of its cuts: the facts that a call goes by once a walk has accepted. (Proved in proofs/GoodCuts.antt.)
use Rattle.std.specs.Prelude.{ℕ, ◌+◌, ◌*◌, ◌≤◌, ◌≡◌, List, true, length}
use Rattle.rules.specs.Fields.{length_at}
use Rattle.runs.specs.Run.{gives}
use Rattle.values.specs.Published.{level_count}
use Rattle.sections.specs.Parts.{bins_in, rays_in}
use Rattle.sections.specs.declared.Cut.{Cut}
use Rattle.base_format.specs.Parts.{data_at, product_in, greatest_in}

-- where the data may be anything
pub record AnyDataCut (s : List ℕ) (c : Cut) : Type 0 where
  pub bins_some : 1 ≤ bins_in s c
  pub bins_few : bins_in s c ≤ 2048
  pub rays_some : 1 ≤ rays_in s c
  pub rays_few : rays_in s c ≤ 1024
  -- V is a level of the product
  pub greatest_few : greatest_in s c ≤ level_count (product_in s c)
  -- the data lies in the file
  pub data_some : 6 ≤ length_at s c.section7
  pub data_inside : c.section7 + length_at s c.section7 ≤ length s

-- and where it gives exactly the bins
pub record GoodCut (s : List ℕ) (c : Cut) : Type 0 where
  pub any : AnyDataCut s c
  pub exact : gives (greatest_in s c) (rays_in s c * bins_in s c) (data_at s c.section7) ≡ true
