-- FORMAT.md, "Rays by a record": "With the record that building made for that file, cut and ray, it provably equals the plain call". Of an accepted file both calls go by the same cut; the
-- record that building made fits its data, and decoding from there gives the ray's bins. A ray past the last one both refuse, whatever the record.
use Prim.Native.Nat.{ℕ, ◌<◌, min}
use mathlib.Core.Path.{◌≡◌, refl, sym, ap, ◌∙◌}
use mathlib.Core.List.{List}
use mathlib.Core.Bool.{true}
use native.Mathlib.Omega.{arith}
use borrow.Author.Tests.{lt-ltb, le-ltb}
use lib.IntN.{ℤ}
use lib.ListN.{length, get_or, drop, get_or-append}
use Rattle.lent.specs.Lent.{front}
use Rattle.octets.proofs.Orders.{by_order}
use Rattle.index.specs.declared.RayRecord.{RayRecord}
use Rattle.index.proofs.Records.{built_usable, built_from, length_records}
use Rattle.values.specs.Ray.{marks_of, values_of}
use Rattle.sections.specs.Parts.{bins_in, rays_in}
use Rattle.sections.specs.Verdict.{Verdict, accepted, default_cut}
use Rattle.sections.specs.declared.Cut.{Cut}
use Rattle.base_format.specs.Parts.{data_at, greatest_in, product_in}
use Rattle.base_format.specs.Good.{GoodCut}
use Rattle.base_format.specs.Checks.{base_checks}
use Rattle.base_format.specs.Accepted.{base_format}
use Rattle.base_format.specs.Verdict.{verdict}
use Rattle.base_format.proofs.Exact.{exact}
use Rattle.base_format.proofs.GoodCuts.{good_accepted}
use Rattle.base_format.proofs.AnyData.{any_same}
use Rattle.cuts.specs.Bins.{ray_in}
use Rattle.cuts.specs.Records.{records_in, usable_in, ray_from}
use Rattle.cuts.proofs.Places.{ray_gives}
use Rattle.calls.specs.Cuts.{on_cut, cut_at, cut_in, cut_any_data, if_written}
use Rattle.sections.specs.Refusal.{refuse}
use Rattle.sections.specs.declared.Why.TheVariants.{Argument}
use Rattle.polar.specs.Rays.{ray_on, ray_answer, levels_after, marks_after, values_after}
use Rattle.records.specs.Records.{from_on, from_answer, levels_from, marks_from, values_from, build_on, build_answer, row_after}
use Rattle.calls.proofs.ByVerdict.{by_verdict}
use Rattle.polar.specs.Promises.{LevelsPromise, ValuesPromise}
use Rattle.records.specs.Promises.{BuildPromise, LevelsFromPromise, ValuesFromPromise}
use Rattle.sections.specs.declared.Refusal.{Refusal}
use Rattle.std.specs.Prelude.{Err, Ok, Result, ⊤}

-- ---- a good cut and a ray of it
module _ (s : List ℕ) (c : Cut) (g : GoodCut s c) (ray : ℕ) (inside : ray < rays_in s c) (e : RayRecord) where
  abbrev made : RayRecord
  made = get_or (records_in s c) ray e

  made_usable : usable_in s c made ≡ true
  unfolding records_in usable_in
  made_usable = built_usable (greatest_in s c) (bins_in s c) (rays_in s c) (data_at s c.section7) g.any.bins_some g.exact ray inside e

  made_from : ray_from s c made ≡ ray_in s c ray
  unfolding records_in ray_from
  made_from =
      built_from (greatest_in s c) (bins_in s c) (rays_in s c) (data_at s c.section7) g.any.bins_some g.exact ray inside e
      ∙ ray_gives s c g (greatest_in s c) (data_at s c.section7) refl refl (bins_in s c) ray refl inside

  same_on : (room : ℕ) → from_on s ray made room c ≡ ray_on s ray room c
  unfolding from_on ray_on
  same_on room =
      rw (lt-ltb ray (rays_in s c) inside, made_usable)

-- ---- an accepted file, a cut of it, and a record that is the one building made where the cut has the ray
module _ (s : List ℕ) (cs : List Cut) (whole : verdict s ≡ accepted cs) (i : ℕ) (some : i < length cs) (ray : ℕ) (rec e : RayRecord)
    (is : ray < rays_in s (get_or cs i default_cut) → rec ≡ get_or (records_in s (get_or cs i default_cut)) ray e) where
  abbrev cut : Cut
  cut = get_or cs i default_cut

  good : GoodCut s cut
  good = good_accepted s cs (exact.accepted_only s cs whole) i some

  by_record : (room : ℕ) → from_answer s i ray rec room ≡ from_on s ray rec room cut
  unfolding from_answer on_cut
  by_record room = ap (on_cut Err (from_on s ray rec room) i) (any_same s cs whole) ∙ rw (lt-ltb i (length cs) some)

  plainly : (room : ℕ) → ray_answer s i ray room ≡ ray_on s ray room cut
  unfolding ray_answer on_cut
  plainly room = ap (on_cut Err (ray_on s ray room) i) whole ∙ rw (lt-ltb i (length cs) some)

  on_its_cut : (room : ℕ) → from_on s ray rec room cut ≡ ray_on s ray room cut
  unfolding from_on ray_on
  on_its_cut room =
      by_order (rays_in s cut) ray
      (λ out. rw (le-ltb ray (rays_in s cut) out))
      (λ inside. ap (λ (x : RayRecord). from_on s ray x room cut) (is inside) ∙ same_on s cut good ray inside e room)

  pub same_answer : (room : ℕ) → from_answer s i ray rec room ≡ ray_answer s i ray room
  same_answer room = by_record room ∙ on_its_cut room ∙ sym (plainly room)

  -- the bins that a written answer is about
  bins_same : (room : ℕ) → ray_answer s i ray room ≡ (Ok tt) → ray_from s cut rec ≡ ray_in s cut ray
  unfolding ray_on
  bins_same room w =
      by_order (rays_in s cut) ray
      (λ out.
      let no : Err (refuse Argument 0) ≡ (Ok tt) = sym (plainly room ∙ rw (le-ltb ray (rays_in s cut) out)) ∙ w in
      absurd (let z : ◌≡◌ {A = ℕ} 0 1 = cc no in omega arith))
      (λ inside. ap (ray_from s cut) (is inside) ∙ made_from s cut good ray inside e)

  -- what is left in lent memory, as `f` makes it of a cut and of bins
  held_same : {A : Type 0} (room : ℕ) (f : Cut → List ℕ → A) (old : A)
      → if_written (ray_answer s i ray room) (f (cut_any_data s i) (ray_from s (cut_any_data s i) rec)) old ≡ if_written (ray_answer s i ray room) (f (cut_in s i) (ray_in s (cut_in s i) ray)) old
  unfolding cut_at
  held_same {A} room f old =
      ap (λ (v : Verdict). if_written (ray_answer s i ray room) (f (cut_at i v) (ray_from s (cut_at i v) rec)) old) (any_same s cs whole)
      ∙ go (ray_answer s i ray room) refl
      ∙ sym (ap (λ (v : Verdict). if_written (ray_answer s i ray room) (f (cut_at i v) (ray_in s (cut_at i v) ray)) old) whole)
    where
      go : (a : Result ⊤ Refusal) → ray_answer s i ray room ≡ a → if_written a (f cut (ray_from s cut rec)) old ≡ if_written a (f cut (ray_in s cut ray)) old
      go (Ok tt) w = ap (f cut) (bins_same room w)
      go (Err q) w = refl

-- ---- THE THEOREM
-- Where building has answered, and `row'` is the row that it left: for every ray, by the record that stands there, and any lent memory
module _ (s : List ℕ) (i : ℕ) (row row' : List RayRecord) (built : BuildPromise s i row (Ok tt) row') (ray : ℕ) (e : RayRecord) where
  abbrev rec : RayRecord
  rec = get_or row' ray e

  -- the file is accepted, has the cut, and the record is the one made
  pub record Built : Type 0 where
    pub cs : List Cut
    pub whole : verdict s ≡ accepted cs
    pub some : i < length cs
    pub is : ray < rays_in s (get_or cs i default_cut) → rec ≡ get_or (records_in s (get_or cs i default_cut)) ray e

  standing : Built
  unfolding build_answer row_after cut_at records_in
  standing =
      by_verdict base_checks base_format exact s Err (build_on s (length row)) i (Ok tt) Built
      (λ r k x. absurd (let z : ◌≡◌ {A = ℕ} 0 1 = cc x in omega arith))
      (λ cs k le x. absurd (let z : ◌≡◌ {A = ℕ} 0 1 = cc x in omega arith))
      (λ cs k lt x. record { cs = cs; whole = exact.accepted_all s cs k; some = lt; is = found cs (exact.accepted_all s cs k) })
      (sym built.answer)
    where
      found : (cs : List Cut) → verdict s ≡ accepted cs → ray < rays_in s (get_or cs i default_cut) → rec ≡ get_or (records_in s (get_or cs i default_cut)) ray e
      found cs w inside =
          let c = get_or cs i default_cut in
          ap (λ (l : List RayRecord). get_or l ray e) (built.after ∙ ap (λ (v : Verdict). front (records_in s (cut_at i v)) row) w)
          ∙ get_or-append (records_in s c) (drop (length (records_in s c)) row) e ray (omega (arith, length_records (bins_in s c) (greatest_in s c) (data_at s c.section7) (rays_in s c) 0))

  pub same_levels : (out out' out'' : List ℕ) (r : Result ⊤ Refusal) (a : Result ⊤ Refusal) → LevelsFromPromise s i ray rec out r out' → LevelsPromise s i ray out a out''
      → (r ≡ a) × (out' ≡ out'')
  unfolding levels_from levels_after
  same_levels out out' out'' r a p q =
      let b = standing in
      let room : ℕ = length out in
      let told : r ≡ ray_answer s i ray room = p.answer ∙ same_answer s b.cs b.whole i b.some ray rec e b.is room in (
        told ∙ sym q.answer,
        p.after
            ∙ ap (λ (x : Result ⊤ Refusal). if_written x (front (ray_from s (cut_any_data s i) rec) out) out) told
            ∙ held_same s b.cs b.whole i b.some ray rec e b.is room (λ c l. front l out) out
            ∙ sym (ap (λ (x : Result ⊤ Refusal). if_written x (front (ray_in s (cut_in s i) ray) out) out) q.answer)
            ∙ sym q.after,
      )

  pub same_values : (marks marks' marks'' : List ℕ) (values values' values'' : List ℤ) (r : Result ⊤ Refusal) (a : Result ⊤ Refusal)
      → ValuesFromPromise s i ray rec marks values r marks' values' → ValuesPromise s i ray marks values a marks'' values''
      → (r ≡ a) × (marks' ≡ marks'') × (values' ≡ values'')
  unfolding marks_from values_from marks_after values_after
  same_values marks marks' marks'' values values' values'' r a p q =
      let b = standing in
      let room : ℕ = min (length marks) (length values) in
      let told : r ≡ ray_answer s i ray room = p.answer ∙ same_answer s b.cs b.whole i b.some ray rec e b.is room in (
        told ∙ sym q.answer,
        p.marked
            ∙ ap (λ (x : Result ⊤ Refusal). if_written x (marks_of (product_in s (cut_any_data s i)) (ray_from s (cut_any_data s i) rec) marks) marks) told
            ∙ held_same s b.cs b.whole i b.some ray rec e b.is room (λ c l. marks_of (product_in s c) l marks) marks
            ∙ sym (ap (λ (x : Result ⊤ Refusal). if_written x (marks_of (product_in s (cut_in s i)) (ray_in s (cut_in s i) ray) marks) marks) q.answer)
            ∙ sym q.marked,
        p.valued
            ∙ ap (λ (x : Result ⊤ Refusal). if_written x (values_of (product_in s (cut_any_data s i)) (ray_from s (cut_any_data s i) rec) values) values) told
            ∙ held_same s b.cs b.whole i b.some ray rec e b.is room (λ c l. values_of (product_in s c) l values) values
            ∙ sym (ap (λ (x : Result ⊤ Refusal). if_written x (values_of (product_in s (cut_in s i)) (ray_in s (cut_in s i) ray) values) values) q.answer)
            ∙ sym q.valued,
      )
