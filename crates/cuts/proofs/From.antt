-- Decoding from a record, said of a cut by the numbers and the data that were read.
use Prim.Native.Nat.{ℕ, ◌+◌, ◌-◌, ◌≤◌}
use mathlib.Core.Path.{◌≡◌, ap}
use mathlib.Core.List.{List}
use mathlib.Core.Bool.{true}
use native.Mathlib.Omega.{arith}
use lib.ListN.{length, take, drop}
use Rattle.runs.specs.Run.{levels}
use Rattle.lent.specs.Lent.{between}
use Rattle.index.specs.declared.RayRecord.{RayRecord}
use Rattle.index.specs.Index.{usable, from_record}
use Rattle.lent.proofs.Lent.{to_end}
use Rattle.index.proofs.Usable.{usable_fits}
use Rattle.values.specs.Published.{level_count}
use Rattle.values.specs.Inner.{Bins}
use Rattle.values.specs.declared.Product.{Product}
use Rattle.sections.specs.Parts.{bins_in}
use Rattle.sections.specs.declared.Cut.{Cut}
use Rattle.base_format.specs.Parts.{data_at, greatest_in}
use Rattle.cuts.specs.Records.{usable_in, ray_from}

module _ (s : List ℕ) (c : Cut) (v nb : ℕ) (xs : List ℕ) (ev : v ≡ greatest_in s c) (eb : nb ≡ bins_in s c) (ex : xs ≡ data_at s c.section7) (rec : RayRecord) where
  pub same_usable : usable v nb xs rec ≡ usable_in s c rec
  unfolding usable_in
  same_usable = λ i. usable (ev i) (eb i) (ex i) rec

  pub same_ray : from_record v nb xs rec ≡ ray_from s c rec
  unfolding ray_from
  same_ray = λ i. from_record (ev i) (eb i) (ex i) rec

-- what reading bins asks and gives, in the octets from a record's offset on
module _ (p : Product) (v nb : ℕ) (xs : List ℕ) (rec : RayRecord) (low : v ≤ level_count p) (few : nb ≤ 2048) (small : rec.before ≤ 4294967295) (fits : usable v nb xs rec ≡ true) where
  abbrev part : List ℕ
  part = take (length xs - rec.offset) (drop rec.offset xs)

  pub offset_inside : rec.offset ≤ length xs
  offset_inside = omega (arith, (usable_fits v nb xs rec fits).inside)

  pub from_asks : (marks values : ℕ) → nb ≤ marks → nb ≤ values → Bins p v rec.before (rec.before + nb) part marks values
  from_asks marks values m n =
      let f = usable_fits v nb xs rec fits in
      let all = to_end xs rec.offset in
      let many = ap (λ (l : List ℕ). length (levels v l)) all in
      record {
        low = low;
        opened = rw all f.opened;
        near = omega arith;
        order = omega arith;
        given = omega (arith, many, f.given);
        room_marks = omega arith;
        room_values = omega arith;
      }

  pub from_gives : between rec.before (rec.before + nb) (levels v part) ≡ from_record v nb xs rec
  from_gives =
      let span : rec.before + nb - rec.before ≡ nb = omega arith in
      λ i. take (span i) (drop rec.before (levels v (to_end xs rec.offset i)))
