-- What a cut of an accepted dual-polarisation file says is said by the octets of its sections, wherever they stand.
use Prim.Native.Nat.{ℕ, suc, ◌+◌, ◌*◌, ◌/◌, ◌≤◌, ◌<◌}
use mathlib.Core.Path.{◌≡◌, ◌∙◌}
use mathlib.Core.List.{List, map}
use native.Mathlib.Omega.{arith}
use native.Mathlib.Nat.{mul-le-mul_right}
use lib.ListN.{length, get_or}
use Rattle.rules.specs.Rules.{field}
use Rattle.rules.specs.Fields.{length_at, bins_at, rays_at, parameter_at}
use Rattle.scaled.specs.Scaled.{cell_of}
use Rattle.sections.specs.Verdict.{default_cut}
use Rattle.sections.specs.Parts.{bins_in, rays_in, grid_at}
use Rattle.sections.specs.declared.Cut.{Cut}
use Rattle.sections.proofs.Alike.{field_alike, bins_alike, rays_alike, grid_alike, parameter_alike}
use Rattle.dual_format.specs.Fields.{site_at, reference_at, binary_scale_at, decimal_scale_at, width_at}
use Rattle.dual_format.specs.Parts.{reference_in, binary_scale_in, decimal_scale_in, width_in, cell_in, told_in}
use Rattle.dual_format.specs.Good.{GoodCut}
use Rattle.dual_format.specs.Accepted.{dual_format, Accepted}
use Rattle.dual_format.proofs.Alike.{lists_long, site_alike, reference_alike, width_alike}
use Rattle.dual_format.proofs.GoodCuts.{good_accepted}
use Rattle.files.specs.File.{Parts, parts_at, Whole, first_four}
use Rattle.files.proofs.Section.{is_there}
use Rattle.files.proofs.Each.{whole_at}
use Rattle.moved.specs.DualByOctets.{cell_by, told_by}

-- all that the calls tell of a cut, by its octets alone
pub record DualByOctets (s : List ℕ) (c : Cut) (p : Parts) : Type 0 where
  pub bins : bins_in s c ≡ bins_at p.three 0
  pub rays : rays_in s c ≡ rays_at p.three 0
  pub grid : grid_at s c.section3 ≡ grid_at p.three 0
  pub parameter : parameter_at s c.section4 ≡ parameter_at p.four 0
  pub site : site_at s c.section4 ≡ site_at p.four 0
  pub cells : (ray bin : ℕ) → ray < rays_in s c → bin < bins_in s c → cell_in s c ray bin ≡ cell_by p ray bin
  pub tells : (ray bin : ℕ) → ray < rays_in s c → bin < bins_in s c → told_in s c ray bin ≡ told_by p ray bin

-- a cell lies before the end of the cells
cell_room : (n all w : ℕ) → n < all → n * w + w ≤ all * w
cell_room n all w lt = let h : suc n * w ≤ all * w = mul-le-mul_right w lt in omega arith

cell_few : (ray bin nr nb : ℕ) → ray < nr → bin < nb → ray * nb + bin < nr * nb
cell_few ray bin nr nb r b = let row : suc ray * nb ≤ nr * nb = mul-le-mul_right nb r in omega arith

by_whole : (s : List ℕ) (c : Cut) (first : List ℕ) → Whole dual_format first (parts_at s c) → GoodCut s c → DualByOctets s c (parts_at s c)
unfolding bins_in rays_in reference_in binary_scale_in decimal_scale_in width_in cell_in told_in binary_scale_at decimal_scale_at
by_whole s c first w good =
    let p = parts_at s c in
    let due3 = w.three_is.long in
    let l3 = lists_long 58 53 54 p.three 0 (rays_at p.three 0) in
    let due4 = w.four_is.long in
    let l4 = lists_long 61 56 57 p.four 0 (rays_at p.three 0) in
    let l5 = w.five_is.long in
    let all7 = is_there s c.section7 w.seven in
    let nb : bins_at s c.section3 ≡ bins_at p.three 0 = bins_alike s c.section3 (omega arith) in
    let nr : rays_at s c.section3 ≡ rays_at p.three 0 = rays_alike s c.section3 (omega arith) in
    let width : width_at s c.section5 ≡ width_at p.five 0 = width_alike s c.section5 (omega arith) in
    let reference : reference_at s c.section5 ≡ reference_at p.five 0 = reference_alike s c.section5 (omega arith) in
    let binary : field s c.section5 16 2 ≡ field p.five 0 16 2 = field_alike s c.section5 16 2 (omega arith) (omega arith) in
    let decimal : field s c.section5 18 2 ≡ field p.five 0 18 2 = field_alike s c.section5 18 2 (omega arith) (omega arith) in
    let wide = width_at s c.section5 / 8 in
    let cell : (ray bin : ℕ) → ray < rays_at s c.section3 → bin < bins_at s c.section3
    → field s c.section7 (6 + (ray * bins_at s c.section3 + bin) * wide) wide ≡ cell_by p ray bin =
    λ ray bin r b.
    let n = ray * bins_at s c.section3 + bin in
    let room = cell_room n (rays_at s c.section3 * bins_at s c.section3) wide (cell_few ray bin _ _ r b) in
    let long : length_at s c.section7 ≡ 5 + rays_at s c.section3 * bins_at s c.section3 * wide = good.cells in
    field_alike s c.section7 (6 + n * wide) wide (omega arith) (omega arith)
    ∙ (λ i. field p.seven 0 (6 + (ray * nb i + bin) * (width i / 8)) (width i / 8)) in
    record {
      bins = nb;
      rays = nr;
      grid = grid_alike s c.section3 (omega arith);
      parameter = parameter_alike s c.section4 (omega arith);
      site = site_alike s c.section4 (omega arith);
      cells = cell;
      tells = λ ray bin r b. (λ i. cell_of (width i) (reference i) (binary i) (decimal i) (cell ray bin r b i));
    }

pub dual_by_octets : (s : List ℕ) (cs : List Cut) → Accepted s cs → (i : ℕ) → i < length cs
    → DualByOctets s (get_or cs i default_cut) (parts_at s (get_or cs i default_cut))
dual_by_octets s cs a i lt = by_whole s (get_or cs i default_cut) (first_four (map (parts_at s) cs)) (whole_at dual_format s cs a i lt) (good_accepted s cs a i lt)
