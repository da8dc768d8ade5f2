-- What `lay` asks at the start of a good cut, and what it then leaves.
use Prim.Native.Nat.{ℕ, ◌+◌, ◌-◌, ◌≤◌, ◌<◌}
use mathlib.Core.Path.{◌≡◌, refl, sym, ap, subst, ◌∙◌}
use mathlib.Core.List.{List}
use native.Mathlib.Omega.{arith}
use lib.ListN.{length, take, drop, length-take}
use Rattle.rules.specs.Fields.{length_at}
use Rattle.runs.specs.Run.{levels}
use Rattle.index.specs.declared.Pace.{Pace}
use Rattle.index.specs.Index.{records}
use Rattle.index.specs.Pace.{data_in, Along, Going}
use Rattle.runs.proofs.Here.{hand_first}
use Rattle.sections.specs.Parts.{bins_in, rays_in}
use Rattle.sections.specs.declared.Cut.{Cut}
use Rattle.base_format.specs.Parts.{data_at, greatest_in}
use Rattle.base_format.specs.Good.{GoodCut}
use Rattle.cuts.proofs.Places.{greatest_small, data_opens, all_levels, few_bins, ray_inside}
use borrow.Author.Tests.{lt-leb, le-leb}
use Rattle.sections.specs.Refusal.{refuse}
use Rattle.sections.specs.declared.Why.TheVariants.{Room}
use Rattle.records.specs.Records.{build_on}
use Rattle.records.specs.Building.{start_in}
use Rattle.cuts.specs.Records.{records_in}
use Rattle.std.specs.Prelude.{Err, Ok}

-- ---- a good cut
module _ (s : List ℕ) (c : Cut) (g : GoodCut s c) where
  same_data : data_in s (start_in s c) ≡ data_at s c.section7
  unfolding data_at
  same_data =
      let span : c.section7 + length_at s c.section7 - (c.section7 + 5) ≡ length_at s c.section7 - 5 = omega arith in
      ap (λ (k : ℕ). take k (drop (c.section7 + 5) s)) span

  pub start_going : length_at s c.section7 < 4294967296 → (p : Pace) → p ≡ start_in s c → Going s p (rays_in s c)
  unfolding data_at
  start_going short p e =
      let d = data_at s c.section7 in
      let small = length-take (length_at s c.section7 - 5) (drop (c.section7 + 5) s) in
      let all = all_levels s c g in
      subst (λ (q : Pace). Going s q (rays_in s c)) (sym e)
      (record {
        order = omega (arith, g.any.data_some);
        reach = g.any.data_inside;
        along = subst (λ (x : List ℕ). Along x (start_in s c)) (sym same_data)
            (record { low = omega (arith, greatest_small s c g.any); few = omega (arith, all, few_bins s c g); short = omega (arith, small); ray = omega (arith, g.any.bins_few); before = omega arith; run = hand_first (greatest_in s c) d (data_opens s c g) });
        left = λ k h.
            let room = ray_inside k (rays_in s c) (bins_in s c) h in
            omega (arith, room, g.any.bins_some, all, ap (λ (x : List ℕ). length (levels (greatest_in s c) x)) same_data);
      })

  pub start_laid : (n : ℕ) (p : Pace) → n ≡ rays_in s c → p ≡ start_in s c → records n p.nb p.v (data_in s p) p.bin ≡ records_in s c
  unfolding records_in
  start_laid n p en ep = (λ j. records (en j) (ep j).nb (ep j).v (data_in s (ep j)) (ep j).bin) ∙ ap (λ (x : List ℕ). records (rays_in s c) (bins_in s c) (greatest_in s c) x 0) same_data

-- ---- what building goes by
module _ (s : List ℕ) (room : ℕ) (c : Cut) where
  pub build_short : room < rays_in s c → build_on s room c ≡ Err (refuse Room 0)
  unfolding build_on
  build_short h = rw (lt-leb _ _ h)

  pub build_fits : rays_in s c ≤ room → build_on s room c ≡ (Ok tt)
  unfolding build_on
  build_fits h = rw (le-leb _ _ h)
