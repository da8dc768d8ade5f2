-- Small samples on which a wrong program would answer otherwise: the definitions compute. V is 10 throughout; the data `3 12 5` is two 3s (12 is the digit 1) and a 5.
use Prim.Native.Nat.{ℕ}
use mathlib.Core.Path.{◌≡◌, refl, ◌∙◌, ap}
use mathlib.Core.Bool.{true, false}
use mathlib.Core.List.{List, [], ◌∷◌}
use lib.IntN.{ℤ, pos}
use lib.ListN.{replicate}
use Rattle.octets.specs.Octets.{be, in_octets}
use Rattle.rules.specs.Rules.{field}
use Rattle.rules.specs.Fields.{length_at, bins_at, rays_at, parameter_at}
use Rattle.lent.specs.Lent.{front, updated}
use Rattle.runs.specs.Run.{levels, digit_sum}
use Rattle.index.specs.declared.RayRecord.{RayRecord}
use Rattle.index.specs.Index.{usable, from_record, record_of, records}
use Rattle.values.specs.Published.{reflectivity, published, level_count, values_from, table_of}
use Rattle.values.specs.Table.{sign_magnitude, octets_of, table_octets}
use Rattle.values.specs.Reading.{reading_of, mark_of, held_of}
use Rattle.values.specs.Ray.{marks_of, values_of}
use Rattle.sections.specs.Refusal.{refuse}
use Rattle.sections.specs.Parts.{bins_in, rays_in}
use Rattle.sections.specs.Verdict.{Verdict}
use Rattle.sections.specs.declared.Why.TheVariants.{Room, Record}
use Rattle.base_format.specs.Fields.{greatest_at}
use Rattle.base_format.specs.Parts.{product_of, data_at, product_in, greatest_in}
use Rattle.cuts.specs.Records.{records_in, usable_in, ray_from}
use Rattle.calls.specs.Cuts.{on_cut, cut_at}
use Rattle.records.specs.Records.{build_on, build_answer, row_after, from_on, from_answer, levels_from, marks_from, values_from as numbers_from}
use Rattle.records.specs.Promises.{BuildPromise, LevelsFromPromise, ValuesFromPromise}
use Rattle.demands.proofs.SampleFiles.{document, data_short, verdicts}
use Rattle.sections.specs.declared.Refusal.{Refusal}
use Rattle.std.specs.Prelude.{Err, Ok, Result, ⊤}

abbrev sample : List ℕ
sample = 3 ∷ 12 ∷ 5 ∷ []

abbrev at : ℕ → ℕ → RayRecord
at o b = record { offset = o; before = b }

-- three rays of one bin: the second begins inside the first run. (Not the run's first bin for the ray's, and not the record of the ray before.)
pub three_rays : records 3 1 10 sample 0 ≡ at 0 0 ∷ at 0 1 ∷ at 2 0 ∷ []
unfolding records record_of digit_sum
three_rays = refl

-- decoding goes on into the next run, and stops after the ray
pub across_runs : from_record 10 2 sample (at 0 1) ≡ 3 ∷ 5 ∷ []
unfolding levels digit_sum
across_runs = refl

pub more_is_left : usable 10 1 sample (at 0 0) ≡ true
unfolding usable levels digit_sum
more_is_left = refl

-- 13: earlier bins equal to the run's length, and one less is taken
pub run_reached : usable 10 1 sample (at 0 2) ≡ false
unfolding usable levels digit_sum
run_reached = refl

pub run_not_reached : usable 10 1 sample (at 0 1) ≡ true
unfolding usable levels digit_sum
run_not_reached = refl

-- 13: an offset equal to the data's length, and one at a digit
pub offset_outside : usable 10 1 sample (at 3 0) ≡ false
unfolding usable levels digit_sum
offset_outside = refl

pub offset_at_digit : usable 10 1 sample (at 1 0) ≡ false
unfolding usable levels digit_sum
offset_at_digit = refl

-- 13: data that ends early is not filled up
pub data_ends : usable 10 2 sample (at 2 0) ≡ false
unfolding usable levels digit_sum
data_ends = refl

-- ── whole files: the promises on those of `demands` SampleFiles.antt ──

-- a record past the last ray written: the row has room for three, and the cut two rays
pub build_two : (r : Result ⊤ Refusal) (row : List RayRecord) → BuildPromise document 0 (at 7 7 ∷ at 8 8 ∷ at 9 9 ∷ []) r row → (r ≡ (Ok tt)) × (row ≡ at 0 0 ∷ at 2 3 ∷ at 9 9 ∷ [])
unfolding in_octets table_octets octets_of sign_magnitude table_of values_from published reflectivity level_count build_answer build_on row_after on_cut cut_at records_in records record_of greatest_in data_at digit_sum rays_in bins_in length_at rays_at bins_at greatest_at field be
build_two r row p =
    let lent : List RayRecord = at 7 7 ∷ at 8 8 ∷ at 9 9 ∷ [] in
    let w : r ≡ (Ok tt) = p.answer ∙ ap (on_cut Err (build_on document 3) 0) verdicts.document_is in (
      w,
      p.after ∙ ap (λ (x : Result ⊤ Refusal). row_after x document 0 lent) w ∙ ap (λ (v : Verdict). front (records_in document (cut_at 0 v)) lent) verdicts.document_is,
    )

-- a row with fewer records than rays taken
pub build_short : (r : Result ⊤ Refusal) (row : List RayRecord) → BuildPromise document 0 (at 7 7 ∷ []) r row → r ≡ Err (refuse Room 0)
unfolding in_octets table_octets octets_of sign_magnitude table_of values_from published reflectivity level_count build_answer build_on on_cut rays_in rays_at field be
build_short r row p = p.answer ∙ ap (on_cut Err (build_on document 1) 0) verdicts.document_is

-- check 8 made after all: of a file whose data gives too few bins, ray 0 is read from its record
pub eight_not_checked : (r : Result ⊤ Refusal) (out : List ℕ) → LevelsFromPromise data_short 0 0 (at 0 0) (replicate 6 9) r out → (r ≡ (Ok tt)) × (out ≡ 0 ∷ 0 ∷ 130 ∷ 130 ∷ 130 ∷ 9 ∷ [])
unfolding in_octets table_octets octets_of sign_magnitude table_of values_from published reflectivity level_count from_answer from_on levels_from on_cut cut_at usable_in usable ray_from greatest_in data_at levels digit_sum rays_in bins_in length_at rays_at bins_at greatest_at field be
eight_not_checked r out p =
    let lent : List ℕ = replicate 6 9 in
    let w : r ≡ (Ok tt) = p.answer ∙ ap (on_cut Err (from_on data_short 0 (at 0 0) 6) 0) verdicts.data_short_any in (
      w,
      p.after ∙ ap (λ (x : Result ⊤ Refusal). levels_from x data_short 0 (at 0 0) lent) w ∙ ap (λ (v : Verdict). front (ray_from data_short (cut_at 0 v) (at 0 0)) lent) verdicts.data_short_any,
    )

-- the same of the values, and a run that goes on over the ray's end stored whole
pub values_eight_not_checked : (r : Result ⊤ Refusal) (marks : List ℕ) (values : List ℤ) → ValuesFromPromise data_short 0 0 (at 0 0) (replicate 6 9) (replicate 6 (pos 77)) r marks values
    → (r ≡ (Ok tt)) × (marks ≡ 0 ∷ 0 ∷ 1 ∷ 1 ∷ 1 ∷ 9 ∷ []) × (values ≡ pos 77 ∷ pos 77 ∷ pos 4112 ∷ pos 4112 ∷ pos 4112 ∷ pos 77 ∷ [])
unfolding in_octets table_octets octets_of sign_magnitude table_of values_from published reflectivity level_count from_answer from_on marks_from numbers_from on_cut cut_at usable_in usable ray_from product_in product_of parameter_at marks_of values_of updated mark_of held_of reading_of greatest_in data_at levels digit_sum rays_in bins_in length_at rays_at bins_at greatest_at field be
values_eight_not_checked r marks values p =
    let numbers : List ℤ = replicate 6 (pos 77) in
    let w : r ≡ (Ok tt) = p.answer ∙ ap (on_cut Err (from_on data_short 0 (at 0 0) 6) 0) verdicts.data_short_any in (
      w,
      p.marked
          ∙ ap (λ (x : Result ⊤ Refusal). marks_from x data_short 0 (at 0 0) (replicate 6 9)) w
          ∙ ap (λ (v : Verdict). marks_of (product_in data_short (cut_at 0 v)) (ray_from data_short (cut_at 0 v) (at 0 0)) (replicate 6 9)) verdicts.data_short_any,
      p.valued
          ∙ ap (λ (x : Result ⊤ Refusal). numbers_from x data_short 0 (at 0 0) numbers) w
          ∙ ap (λ (v : Verdict). values_of (product_in data_short (cut_at 0 v)) (ray_from data_short (cut_at 0 v) (at 0 0)) numbers) verdicts.data_short_any,
    )

-- 13 at a wrong place: from the record of ray 1 that data ends early, and the place is section 7's start
pub record_at_section_7 : (r : Result ⊤ Refusal) (out : List ℕ) → LevelsFromPromise data_short 0 1 (at 2 3) (replicate 6 9) r out → r ≡ Err (refuse Record 673)
unfolding in_octets table_octets octets_of sign_magnitude table_of values_from published reflectivity level_count from_answer from_on on_cut usable_in usable greatest_in data_at levels digit_sum rays_in bins_in length_at rays_at bins_at greatest_at field be
record_at_section_7 r out p = p.answer ∙ ap (on_cut Err (from_on data_short 1 (at 2 3) 6) 0) verdicts.data_short_any

-- 13 tested before 11: the same record, and no room
pub room_before_record : (r : Result ⊤ Refusal) (out : List ℕ) → LevelsFromPromise data_short 0 1 (at 2 3) [] r out → r ≡ Err (refuse Room 0)
unfolding in_octets table_octets octets_of sign_magnitude table_of values_from published reflectivity level_count from_answer from_on on_cut usable_in usable greatest_in data_at levels digit_sum rays_in bins_in length_at rays_at bins_at greatest_at field be
room_before_record r out p = p.answer ∙ ap (on_cut Err (from_on data_short 1 (at 2 3) 0) 0) verdicts.data_short_any

-- data that ends before Nb bins filled up: the same record, and the lent octets are what they were
pub ended_data : (r : Result ⊤ Refusal) (out : List ℕ) → LevelsFromPromise data_short 0 1 (at 2 3) (replicate 6 9) r out → out ≡ replicate 6 9
unfolding levels_from
ended_data r out p = p.after ∙ ap (λ (x : Result ⊤ Refusal). levels_from x data_short 0 (at 2 3) (replicate 6 9)) (record_at_section_7 r out p)

-- earlier bins equal to the run's length taken: the run at offset 0 has two bins
pub run_length_reached : (r : Result ⊤ Refusal) (out : List ℕ) → LevelsFromPromise data_short 0 0 (at 0 2) (replicate 6 9) r out → (r ≡ Err (refuse Record 673)) × (out ≡ replicate 6 9)
unfolding in_octets table_octets octets_of sign_magnitude table_of values_from published reflectivity level_count from_answer from_on levels_from on_cut usable_in usable greatest_in data_at levels digit_sum rays_in bins_in length_at rays_at bins_at greatest_at field be
run_length_reached r out p =
    let w : r ≡ Err (refuse Record 673) = p.answer ∙ ap (on_cut Err (from_on data_short 0 (at 0 2) 6) 0) verdicts.data_short_any in
    (w, p.after ∙ ap (λ (x : Result ⊤ Refusal). levels_from x data_short 0 (at 0 2) (replicate 6 9)) w)
