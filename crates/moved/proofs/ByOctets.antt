-- What a cut of an accepted file says is said by the octets of its sections, wherever they stand.
use Prim.Native.Nat.{ℕ, ◌+◌, ◌*◌, ◌<◌}
use mathlib.Core.Path.{◌≡◌, ap}
use mathlib.Core.List.{List, map}
use native.Mathlib.Omega.{arith}
use lib.ListN.{length, get_or, drop}
use lib.IntN.{ℤ}
use Rattle.rules.specs.Rules.{field}
use Rattle.rules.specs.Fields.{bins_at, rays_at, parameter_at}
use Rattle.base_format.specs.Fields.{site_at, greatest_at}
use Rattle.runs.specs.Run.{levels}
use Rattle.sections.specs.Verdict.{default_cut}
use Rattle.sections.specs.Parts.{bins_in, rays_in, grid_at}
use Rattle.sections.specs.declared.Cut.{Cut}
use Rattle.sections.proofs.Alike.{field_alike, bins_alike, rays_alike, grid_alike, parameter_alike}
use Rattle.base_format.specs.Parts.{product_of, product_in, greatest_in, data_at, levels_in}
use Rattle.base_format.specs.Accepted.{base_format, Accepted}
use Rattle.base_format.proofs.Alike.{site_alike, greatest_alike, data_alike}
use Rattle.stretches.specs.Call.{kind_by_threshold, stretches_from}
use Rattle.cuts.specs.Bins.{stretches_in}
use Rattle.files.specs.File.{Parts, parts_at, Whole, first_four}
use Rattle.files.proofs.Section.{is_there}
use Rattle.files.proofs.Each.{whole_at}
use Rattle.moved.specs.ByOctets.{product_by, levels_by, stretches_by}

-- all that the calls tell of a cut, by its octets alone
pub record ByOctets (s : List ℕ) (c : Cut) (p : Parts) : Type 0 where
  pub bins : bins_in s c ≡ bins_at p.three 0
  pub rays : rays_in s c ≡ rays_at p.three 0
  pub grid : grid_at s c.section3 ≡ grid_at p.three 0
  pub azimuth : field s c.section3 40 2 ≡ field p.three 0 40 2
  pub product : product_in s c ≡ product_by p
  pub site : site_at s c.section4 ≡ site_at p.four 0
  pub mode : field s c.section4 38 1 ≡ field p.four 0 38 1
  pub elevation : field s c.section4 42 2 ≡ field p.four 0 42 2
  pub greatest : greatest_in s c ≡ greatest_at p.five 0
  pub octets : data_at s c.section7 ≡ drop 5 p.seven
  pub levels_are : levels_in s c ≡ levels_by p
  pub stretches_are : (t : ℤ) (ray bin : ℕ) → stretches_in s c t ray bin ≡ stretches_by p t ray bin

by_whole : (s : List ℕ) (c : Cut) (first : List ℕ) → Whole base_format first (parts_at s c) → ByOctets s c (parts_at s c)
unfolding bins_in rays_in product_in greatest_in levels_in stretches_in
by_whole s c first w =
    let p = parts_at s c in
    let l3 = w.three_is.long in
    let l4 = w.four_is.long in
    let l5 = w.five_is.long in
    let l7 = w.seven_is.long in
    let nb : bins_at s c.section3 ≡ bins_at p.three 0 = bins_alike s c.section3 (omega arith) in
    let nr : rays_at s c.section3 ≡ rays_at p.three 0 = rays_alike s c.section3 (omega arith) in
    let product : product_of (parameter_at s c.section4) ≡ product_by p = ap product_of (parameter_alike s c.section4 (omega arith)) in
    let v : greatest_at s c.section5 ≡ greatest_at p.five 0 = greatest_alike s c.section5 (omega arith) in
    let octets : data_at s c.section7 ≡ drop 5 p.seven = data_alike s c.section7 (is_there s c.section7 w.seven) (omega arith) in
    record {
      bins = nb;
      rays = nr;
      grid = grid_alike s c.section3 (omega arith);
      azimuth = field_alike s c.section3 40 2 (omega arith) (omega arith);
      product = product;
      site = site_alike s c.section4 (omega arith);
      mode = field_alike s c.section4 38 1 (omega arith) (omega arith);
      elevation = field_alike s c.section4 42 2 (omega arith) (omega arith);
      greatest = v;
      octets = octets;
      levels_are = (λ i. levels (v i) (octets i));
      stretches_are = λ t ray bin. (λ i. stretches_from (kind_by_threshold (product i) t) (v i) (octets i) (nb i) (nr i) (ray * nb i + bin));
    }

pub by_octets : (s : List ℕ) (cs : List Cut) → Accepted s cs → (i : ℕ) → i < length cs → ByOctets s (get_or cs i default_cut) (parts_at s (get_or cs i default_cut))
by_octets s cs a i lt = by_whole s (get_or cs i default_cut) (first_four (map (parts_at s) cs)) (whole_at base_format s cs a i lt)
