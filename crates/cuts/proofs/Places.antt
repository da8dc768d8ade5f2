-- Numbers of a good cut: what run reading asks, and that the bins of a ray lie among all bins.
use Prim.Native.Nat.{ℕ, suc, ◌+◌, ◌*◌, ◌-◌, ◌≤◌, ◌<◌}
use mathlib.Core.Path.{◌≡◌, ap}
use mathlib.Core.List.{List}
use mathlib.Core.Bool.{true}
use native.Mathlib.Omega.{arith}
use native.Mathlib.Nat.{mul-le-mul, mul-le-mul_right}
use lib.ListN.{length, get_or, take, drop}
use lib.IntN.{ℤ}
use Rattle.runs.specs.Run.{opens, levels}
use Rattle.lent.specs.Lent.{front, between}
use Rattle.runs.proofs.Here.{gives_true, levels_le}
use Rattle.values.specs.Published.{level_count}
use Rattle.values.specs.Inner.{Bins}
use Rattle.values.specs.declared.Product.{Product}
use Rattle.values.proofs.Published.{count_le}
use Rattle.sections.specs.Parts.{bins_in, rays_in}
use Rattle.base_format.specs.Parts.{data_at, product_in, greatest_in, levels_in, level_in}
use Rattle.base_format.specs.Good.{AnyDataCut, GoodCut}
use Rattle.sections.specs.declared.Cut.{Cut}
use Rattle.stretches.specs.Inner.{CutData}
use Rattle.stretches.specs.Call.{kind_by_threshold, stretches_from, right_point}
use Rattle.cuts.specs.Bins.{bins_from, ray_in, stretches_in}

pub greatest_small : (s : List ℕ) (c : Cut) → AnyDataCut s c → greatest_in s c ≤ 252
greatest_small s c g = let few = g.greatest_few in omega (arith, count_le (product_in s c))

module _ (s : List ℕ) (c : Cut) (g : GoodCut s c) where
  pub data_opens : opens (greatest_in s c) (data_at s c.section7) ≡ true
  data_opens = (gives_true (greatest_in s c) (rays_in s c * bins_in s c) (data_at s c.section7) g.exact).0

  pub all_levels : length (levels (greatest_in s c) (data_at s c.section7)) ≡ rays_in s c * bins_in s c
  all_levels = (gives_true (greatest_in s c) (rays_in s c * bins_in s c) (data_at s c.section7) g.exact).1

  pub all_bins : length (levels_in s c) ≡ rays_in s c * bins_in s c
  unfolding levels_in
  all_bins = all_levels

  pub few_bins : rays_in s c * bins_in s c ≤ 2097152
  few_bins = mul-le-mul g.any.rays_few g.any.bins_few

-- a ray of nr rays of nb bins
pub ray_inside : (ray nr nb : ℕ) → ray < nr → ray * nb + nb ≤ nr * nb
ray_inside ray nr nb h = let m : suc ray * nb ≤ nr * nb = mul-le-mul_right nb h in omega (arith, m)

pub bin_inside : (ray nr bin nb : ℕ) → ray < nr → bin < nb → ray * nb + bin + 1 ≤ nr * nb
bin_inside ray nr bin nb h k = let m = ray_inside ray nr nb h in omega arith

-- ── what the callees ask and give, of the numbers v, nb, nr, the data xs and the product p that were read ──

module _ (s : List ℕ) (c : Cut) (g : GoodCut s c) (v : ℕ) (xs : List ℕ) (ev : v ≡ greatest_in s c) (ex : xs ≡ data_at s c.section7) where
  pub fill_asks : (from count room : ℕ) → from + count ≤ rays_in s c * bins_in s c → count ≤ room
      → ((v ≤ 253) × (opens v xs ≡ true) × (length (levels v xs) ≤ 2097152)) × ((from ≤ from + count) × (from + count ≤ length (levels v xs)) × (from + count - from ≤ room))
  fill_asks from count room h k =
      let small = greatest_small s c g.any in
      let all = all_levels s c g in
      let few = few_bins s c g in
      rw (ev, ex) ((omega arith, data_opens s c g, omega arith), (omega arith, omega arith, omega arith))

  pub fill_gives : (from count : ℕ) (d : List ℕ) → front (between from (from + count) (levels v xs)) d ≡ front (bins_from s c from count) d
  unfolding bins_from levels_in
  fill_gives from count d =
      let n : from + count - from ≡ count = omega arith in
      rw (ev, ex) (ap (λ (k : ℕ). front (take k (drop from (levels (greatest_in s c) (data_at s c.section7)))) d) n)

  module _ (nb ray : ℕ) (eb : nb ≡ bins_in s c) (h : ray < rays_in s c) where
    pub level_asks : (bin : ℕ) → bin < bins_in s c → ((v ≤ 253) × (opens v xs ≡ true) × (length (levels v xs) ≤ 2097152)) × (ray * nb + bin < length (levels v xs))
    level_asks bin k =
        let small = greatest_small s c g.any in
        let all = all_levels s c g in
        let few = few_bins s c g in
        let there = bin_inside ray (rays_in s c) bin (bins_in s c) h k in
        rw (ev, ex, eb) ((omega arith, data_opens s c g, omega arith), omega arith)

    pub level_gives : (bin : ℕ) → get_or (levels v xs) (ray * nb + bin) 0 ≡ level_in s c ray bin
    unfolding level_in levels_in
    level_gives bin = rw (ev, ex, eb)

    pub readings_ask : (p : Product) → p ≡ product_in s c → (marks values : ℕ) → bins_in s c ≤ marks → bins_in s c ≤ values
        → Bins p v (ray * nb) (ray * nb + nb) xs marks values × ((ray * nb < ray * nb + nb) × (length (levels v xs) ≤ 2097152))
    readings_ask p ep marks values m n =
        let all = all_levels s c g in
        let few = few_bins s c g in
        let there = ray_inside ray (rays_in s c) (bins_in s c) h in
        let some = g.any.bins_some in
        rw (ev, ex, eb, ep)
        (record { low = g.any.greatest_few; opened = data_opens s c g; near = omega arith; order = omega arith; given = omega arith; room_marks = omega arith; room_values = omega arith }, (omega arith, omega arith))

    pub ray_gives : between (ray * nb) (ray * nb + nb) (levels v xs) ≡ ray_in s c ray
    unfolding ray_in bins_from levels_in
    ray_gives =
        let from : ℕ = ray * bins_in s c in
        let n : from + bins_in s c - from ≡ bins_in s c = omega arith in
        rw (ev, ex, eb) (ap (λ (k : ℕ). take k (drop from (levels (greatest_in s c) (data_at s c.section7)))) n)

  module _ (nb nr : ℕ) (p : Product) (eb : nb ≡ bins_in s c) (er : nr ≡ rays_in s c) (ep : p ≡ product_in s c) where
    pub list_asks : (ray bin : ℕ) → right_point (bins_in s c) (rays_in s c) ray bin ≡ true
        → CutData v nb nr xs × ((v ≤ level_count p) × (right_point nb nr ray bin ≡ true))
    list_asks ray bin h =
        let small = greatest_small s c g.any in
        rw (ev, ex, eb, er, ep)
        (record { v_le = omega arith; nb_pos = g.any.bins_some; nb_le = g.any.bins_few; nr_le = g.any.rays_few; given = g.exact }, (g.any.greatest_few, h))

    pub list_gives : (t z : ℤ) (ray bin : ℕ) → z ≡ t → stretches_from (kind_by_threshold p z) v xs nb nr (ray * nb + bin) ≡ stretches_in s c t ray bin
    unfolding stretches_in
    list_gives t z ray bin ez = rw (ev, ex, eb, er, ep, ez)

-- every level of a good cut is one of its product
pub level_few : (s : List ℕ) (c : Cut) → GoodCut s c → (ray bin : ℕ) → level_in s c ray bin ≤ level_count (product_in s c)
unfolding level_in levels_in
level_few s c g ray bin = omega (arith, levels_le (greatest_in s c) (data_at s c.section7) (ray * bins_in s c + bin), g.any.greatest_few)
