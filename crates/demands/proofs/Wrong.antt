-- WRONG PROGRAMS, each shut out on a small whole file (SampleFiles.antt): what the promise allows there is one outcome, written out, and it is not what that program gives. Each
-- follows from the promise alone. The line above each names the program.
use Prim.Native.Nat.{ℕ}
use mathlib.Core.Path.{◌≡◌, ◌∙◌, ap}
use mathlib.Core.List.{List, [], ◌∷◌}
use mathlib.Core.Bool.{false}
use native.Mathlib.Omega.{arith}
use lib.IntN.{ℤ, pos, negsuc}
use lib.ListN.{replicate}
use lib.Ieee.{Float, nan, inf, fin, binary64, mul, div, of_int}
use Rattle.octets.specs.Octets.{be, signed, in_octets}
use Rattle.rules.specs.Rules.{field}
use Rattle.rules.specs.Fields.{length_at, bins_at, rays_at, parameter_at}
use Rattle.fraction.specs.Quotient.{quotient, hundredths}
use Rattle.lent.specs.Lent.{front, updated}
use Rattle.runs.specs.Run.{digit_sum, levels}
use Rattle.values.specs.Published.{reflectivity, velocity_even, velocity, published, level_count, values_from, table_of}
use Rattle.values.specs.Table.{sign_magnitude, octets_of, table_octets}
use Rattle.values.specs.Reading.{reading_of, mark_of, held_of, kind_of}
use Rattle.values.specs.Ray.{marks_of, values_of}
use Rattle.values.specs.declared.Product.TheVariants.{Reflectivity, Velocity}
use Rattle.sections.specs.Refusal.{refuse}
use Rattle.sections.specs.Parts.{bins_in, rays_in, time_of, grid_at}
use Rattle.sections.specs.Verdict.{Verdict, refused}
use Rattle.sections.specs.declared.Refusal.{Refusal}
use Rattle.sections.specs.declared.Why.TheVariants.{SectionLength, Field, Points, Data, Argument, Room}
use Rattle.base_format.specs.Fields.{site_at, greatest_at}
use Rattle.base_format.specs.Parts.{product_of, data_at, product_in, greatest_in, levels_in, level_in}
use Rattle.base_format.specs.Verdict.{verdict}
use Rattle.stretches.specs.Stretch.{words_of, begins_after, unbroken, list_from, from_place}
use Rattle.stretches.specs.Call.{stretches_from, answer_of, out_of, right_t, right_point}
use Rattle.cuts.specs.Bins.{bins_from, ray_in, stretches_in}
use Rattle.calls.specs.Cuts.{on_file, on_cut, cut_at}
use Rattle.polar.specs.Opening.{summary_of, open_answer, elevation_of, info_of, cut_answer}
use Rattle.polar.specs.Rays.{ray_on, ray_answer, levels_after, marks_after, values_after, bin_of, bin_on, bin_answer}
use Rattle.polar.specs.Stretching.{stretches_on, stretch_answer, words_after, house}
use Rattle.polar.specs.Promises.{OpenPromise, CutPromise, LevelsPromise, ValuesPromise, BinPromise, StretchesPromise}
use Rattle.demands.proofs.SampleFiles.{document, data_short, data_above, data_long, long_one, long_six, field_and_points, points_and_table, length_not_by_m, wind, two_cuts, later_long, other_parameter, other_site, greater_v, greater_wind_v, verdicts}
use Rattle.polar.specs.declared.CutInfo.{CutInfo}
use Rattle.polar.specs.declared.Summary.{Summary}
use Rattle.stretches.specs.declared.Listing.{Listing}
use Rattle.std.specs.Prelude.{Err, None, Ok, Option, Result, Some, ⊤}

-- ── the file's own refusals ──

open_by : (s : List ℕ) (q : Refusal) → verdict s ≡ refused q → (r : Result Summary Refusal) → OpenPromise s r → r ≡ Err q
unfolding open_answer on_file
open_by s q h r p = p.answer ∙ ap (on_file Err (λ n c. Ok (summary_of s n c))) h

-- a wrong place of 8, where there are too few bins: section 7's start (673), its last octet, the data's length counted from that start. It is one past the data, where `7777` stands
pub data_too_few : (r : Result Summary Refusal) → OpenPromise data_short r → r ≡ Err (refuse Data 685)
data_too_few = open_by data_short _ verdicts.data_short_lem

-- where the first octet is above V: the section's start. It is that octet
pub data_above_v : (r : Result Summary Refusal) → OpenPromise data_above r → r ≡ Err (refuse Data 678)
data_above_v = open_by data_above _ verdicts.data_above_lem

-- where the bins are passed: the section's start, the run's level (682), the zero digit after it, one past the fault, the offset counted from the section's start (679). It is the digit
-- that passes them
pub data_passed : (r : Result Summary Refusal) → OpenPromise data_long r → r ≡ Err (refuse Data 684)
data_passed = open_by data_long _ verdicts.data_long_lem

-- and in the second cut
pub later_data_passed : (r : Result Summary Refusal) → OpenPromise later_long r → r ≡ Err (refuse Data 1324)
later_data_passed = open_by later_long _ verdicts.later_long_lem

-- 5 tested before 4, in section 1
pub length_before_field : (r : Result Summary Refusal) → OpenPromise long_one r → r ≡ Err (refuse SectionLength 16)
length_before_field = open_by long_one _ verdicts.length_1

-- the length of section 6 not tested
pub length_of_6 : (r : Result Summary Refusal) → OpenPromise long_six r → r ≡ Err (refuse SectionLength 667)
length_of_6 = open_by long_six _ verdicts.length_6

-- 6 tested before 5, in section 3
pub field_before_points : (r : Result Summary Refusal) → OpenPromise field_and_points r → r ≡ Err (refuse Field 37)
field_before_points = open_by field_and_points _ verdicts.field_first

-- 7 tested before 6, in section 5; 6 not tested there
pub points_before_table : (r : Result Summary Refusal) → OpenPromise points_and_table r → r ≡ Err (refuse Points 146)
points_before_table = open_by points_and_table _ verdicts.points_first

-- section 5's length fixed at 521, and M tested as a field: 4 comes first, and by M as read
pub length_by_m : (r : Result Summary Refusal) → OpenPromise length_not_by_m r → r ≡ Err (refuse SectionLength 146)
length_by_m = open_by length_not_by_m _ verdicts.length_by_m

-- octet 11 of a later cut not compared with the first cut's
pub parameter_compared : (r : Result Summary Refusal) → OpenPromise other_parameter r → r ≡ Err (refuse Field 717)
parameter_compared = open_by other_parameter _ verdicts.parameter_compared

-- nor octets 29-30
pub site_compared : (r : Result Summary Refusal) → OpenPromise other_site r → r ≡ Err (refuse Field 717)
site_compared = open_by other_site _ verdicts.site_compared

-- V of a later cut's own section 5 not compared with M
pub v_compared : (r : Result Summary Refusal) → OpenPromise greater_v r → r ≡ Err (refuse Field 789)
v_compared = open_by greater_v _ verdicts.v_compared

-- V compared with 252, whatever the product
pub v_by_m : (r : Result Summary Refusal) → OpenPromise greater_wind_v r → r ≡ Err (refuse Field 142)
v_by_m = open_by greater_wind_v _ verdicts.v_by_m

-- ── open and cut ──

-- a wrong time, site or count of cuts
pub open_two : (r : Result Summary Refusal) → OpenPromise two_cuts r
    → r ≡ Ok (record { product = Reflectivity; time = record { year = 2026; month = 6; day = 14; hour = 3; minute = 40; second = 59 }; site = 47695; cuts = 2 })
unfolding in_octets table_octets octets_of sign_magnitude table_of values_from published reflectivity level_count open_answer on_file product_in product_of time_of parameter_at site_at field be
open_two r p = p.answer ∙ ap (on_file Err (λ n c. Ok (summary_of two_cuts n c))) verdicts.two_are

-- section 5's length fixed at 521: a velocity file, whose section 5 has 519 octets, is accepted
pub open_wind : (r : Result Summary Refusal) → OpenPromise wind r
    → r ≡ Ok (record { product = Velocity; time = record { year = 2026; month = 6; day = 14; hour = 3; minute = 40; second = 59 }; site = 47695; cuts = 1 })
unfolding in_octets table_octets octets_of sign_magnitude table_of values_from published reflectivity level_count open_answer on_file product_in product_of time_of parameter_at site_at field be
open_wind r p = p.answer ∙ ap (on_file Err (λ n c. Ok (summary_of wind n c))) verdicts.wind_is

-- latitude as two's complement (0x80000005 is -5 in 10^-6 degrees); 0xFFFF as an elevation
pub southern_cut : (r : Result CutInfo Refusal) → CutPromise two_cuts 0 r
    → r ≡ Ok (record {
      grid = record { nb = 2; nr = 1; latitude = negsuc 4; longitude = 139959722; dx = 500000; dstart = 250 };
      start_azimuth = 4500;
      mode = 2;
      elevation = None;
    })
unfolding in_octets table_octets octets_of sign_magnitude table_of values_from published reflectivity level_count cut_answer on_cut info_of grid_at elevation_of bins_at rays_at signed field be
southern_cut r p = p.answer ∙ ap (on_cut Err (λ c. Ok (info_of two_cuts c)) 0) verdicts.two_are

-- the first section 3 for every cut; an elevation as two's complement (0x8005 is -5 in 10^-2 degrees)
pub own_section_3 : (r : Result CutInfo Refusal) → CutPromise two_cuts 1 r
    → r ≡ Ok (record {
      grid = record { nb = 1; nr = 3; latitude = pos 7; longitude = 139959722; dx = 500000; dstart = 250 };
      start_azimuth = 4500;
      mode = 2;
      elevation = Some (negsuc 4);
    })
unfolding in_octets table_octets octets_of sign_magnitude table_of values_from published reflectivity level_count cut_answer on_cut info_of grid_at elevation_of bins_at rays_at signed field be
own_section_3 r p = p.answer ∙ ap (on_cut Err (λ c. Ok (info_of two_cuts c)) 1) verdicts.two_are

-- ── rays and bins ──

-- 11 tested before 10: a ray past the last, and no room
pub ray_before_room : (r : Result ⊤ Refusal) (out : List ℕ) → LevelsPromise document 0 2 [] r out → r ≡ Err (refuse Argument 0)
unfolding in_octets table_octets octets_of sign_magnitude table_of values_from published reflectivity level_count ray_answer on_cut ray_on bins_in rays_in bins_at rays_at field be
ray_before_room r out p = p.answer ∙ ap (on_cut Err (ray_on document 2 0) 0) verdicts.document_is

-- the ray before, the ray after, a ray written past its bins: ray 1 has five bins, the first of them in the run that began on ray 0
pub ray_1 : (r : Result ⊤ Refusal) (out : List ℕ) → LevelsPromise document 0 1 (replicate 7 9) r out → (r ≡ (Ok tt)) × (out ≡ 130 ∷ 1 ∷ 1 ∷ 1 ∷ 0 ∷ 9 ∷ 9 ∷ [])
unfolding in_octets table_octets octets_of sign_magnitude table_of values_from published reflectivity level_count ray_answer levels_after on_cut cut_at ray_on ray_in bins_from levels_in greatest_in data_at levels digit_sum bins_in rays_in length_at bins_at rays_at greatest_at field be
ray_1 r out p =
    let lent : List ℕ = replicate 7 9 in
    let w : r ≡ (Ok tt) = p.answer ∙ ap (on_cut Err (ray_on document 1 7) 0) verdicts.document_is in (
      w,
      p.after
          ∙ ap (λ (a : Result ⊤ Refusal). levels_after a document 0 1 lent) w
          ∙ ap (λ (v : Verdict). front (ray_in document (cut_at 0 v) 1) lent) verdicts.document_is,
    )

-- level 0 given the value 0: its mark is 0 and its place keeps what it held; the level for the value (130 is 41.12 dBZ); a run that goes on over the ray's end stored whole
pub ray_values_lem : (r : Result ⊤ Refusal) (marks : List ℕ) (values : List ℤ) → ValuesPromise document 0 0 (replicate 7 9) (replicate 7 (pos 77)) r marks values
    → (r ≡ (Ok tt))
    × (marks ≡ 0 ∷ 0 ∷ 1 ∷ 1 ∷ 1 ∷ 9 ∷ 9 ∷ [])
    × (values ≡ pos 77 ∷ pos 77 ∷ pos 4112 ∷ pos 4112 ∷ pos 4112 ∷ pos 77 ∷ pos 77 ∷ [])
unfolding in_octets table_octets octets_of sign_magnitude table_of values_from published reflectivity level_count ray_answer marks_after values_after on_cut cut_at ray_on ray_in bins_from levels_in greatest_in data_at levels digit_sum product_in product_of parameter_at marks_of values_of updated mark_of held_of reading_of bins_in rays_in length_at bins_at rays_at greatest_at field be
ray_values_lem r marks values p =
    let w : r ≡ (Ok tt) = p.answer ∙ ap (on_cut Err (ray_on document 0 7) 0) verdicts.document_is in (
      w,
      p.marked
          ∙ ap (λ (a : Result ⊤ Refusal). marks_after a document 0 0 (replicate 7 9)) w
          ∙ ap (λ (v : Verdict). marks_of (product_in document (cut_at 0 v)) (ray_in document (cut_at 0 v) 0) (replicate 7 9)) verdicts.document_is,
      p.valued
          ∙ ap (λ (a : Result ⊤ Refusal). values_after a document 0 0 (replicate 7 (pos 77))) w
          ∙ ap (λ (v : Verdict). values_of (product_in document (cut_at 0 v)) (ray_in document (cut_at 0 v) 0) (replicate 7 (pos 77))) verdicts.document_is,
    )

-- the room of the values not tested: it is one short, and that of the marks is long enough
pub values_room : (r : Result ⊤ Refusal) (marks : List ℕ) (values : List ℤ) → ValuesPromise document 0 0 (replicate 5 9) (replicate 4 (pos 77)) r marks values
    → (r ≡ Err (refuse Room 0)) × (marks ≡ replicate 5 9) × (values ≡ replicate 4 (pos 77))
unfolding in_octets table_octets octets_of sign_magnitude table_of values_from published reflectivity level_count ray_answer marks_after values_after on_cut ray_on bins_in rays_in bins_at rays_at field be
values_room r marks values p =
    let w : r ≡ Err (refuse Room 0) = p.answer ∙ ap (on_cut Err (ray_on document 0 4) 0) verdicts.document_is in (
      w,
      p.marked ∙ ap (λ (a : Result ⊤ Refusal). marks_after a document 0 0 (replicate 5 9)) w,
      p.valued ∙ ap (λ (a : Result ⊤ Refusal). values_after a document 0 0 (replicate 4 (pos 77))) w,
    )

-- the bin of level 19: 5.60, by one division
bin_is : (r : Result (Option Float) Refusal) → BinPromise two_cuts 0 0 0 r → r ≡ Ok (Some (hundredths (pos 560)))
unfolding in_octets table_octets octets_of sign_magnitude table_of values_from published reflectivity level_count bin_answer on_cut bin_on bin_of level_in levels_in greatest_in data_at levels digit_sum product_in product_of parameter_at reading_of bins_in rays_in length_at bins_at rays_at greatest_at field be
bin_is r p = p.answer ∙ ap (on_cut Err (bin_on two_cuts 0 0) 0) verdicts.two_are

pub bin_divided : (r : Result (Option Float) Refusal) → BinPromise two_cuts 0 0 0 r → r ≡ Ok (Some (fin false 3152519739159347 (negsuc 48)))
unfolding hundredths quotient div of_int
bin_divided = bin_is

-- 560 taken times the float nearest to 0.01, which is another number: 5.6000000000000005
abbrev pub times_hundredth : Float
times_hundredth = mul binary64 (of_int binary64 (pos 560)) (hundredths (pos 1))

abbrev significand : Float → ℕ
significand nan = 0
significand (inf s) = 0
significand (fin s m e) = m

pub bin_not_times : BinPromise two_cuts 0 0 0 (Ok (Some times_hundredth)) → ⊥
unfolding hundredths quotient div mul of_int
bin_not_times p =
    let same : times_hundredth ≡ fin false 3152519739159347 (negsuc 48) = only times_hundredth _ (bin_divided (Ok (Some times_hundredth)) p) in
    let z : ◌≡◌ {A = ℕ} 6305039478318695 3152519739159347 = ap significand same in
    omega arith
  where
    only : (x y : Float) → ◌≡◌ {A = Result (Option Float) Refusal} (Ok (Some x)) (Ok (Some y)) → x ≡ y
    only x y e = cc e

-- level 0 is missing
pub bin_missing : (r : Result (Option Float) Refusal) → BinPromise two_cuts 0 0 1 r → r ≡ (Ok None)
unfolding in_octets table_octets octets_of sign_magnitude table_of values_from published reflectivity level_count bin_answer on_cut bin_on bin_of level_in levels_in greatest_in data_at levels digit_sum product_in product_of parameter_at reading_of bins_in rays_in length_at bins_at rays_at greatest_at field be
bin_missing r p = p.answer ∙ ap (on_cut Err (bin_on two_cuts 0 1) 0) verdicts.two_are

-- bin Nb taken
pub bin_past_ray : (r : Result (Option Float) Refusal) → BinPromise document 0 0 5 r → r ≡ Err (refuse Argument 0)
unfolding in_octets table_octets octets_of sign_magnitude table_of values_from published reflectivity level_count bin_answer on_cut bin_on bins_in rays_in bins_at rays_at field be
bin_past_ray r p = p.answer ∙ ap (on_cut Err (bin_on document 0 5) 0) verdicts.document_is

-- ── stretches ──

-- 11 tested before 10: a threshold past its range, and no room
pub threshold_before_room : (r : Result Listing Refusal) (words : List ℕ) → StretchesPromise document 0 (pos 32768) 0 0 [] r words → r ≡ Err (refuse Argument 0)
unfolding in_octets table_octets octets_of sign_magnitude table_of values_from published reflectivity level_count stretch_answer on_cut stretches_on right_t right_point bins_in rays_in bins_at rays_at field be
threshold_before_room r words p = p.answer ∙ ap (on_cut Err (stretches_on document (pos 32768) 0 0 0) 0) verdicts.document_is

-- a point outside the grid taken: the ray has bins 0 to 4
pub point_outside : (r : Result Listing Refusal) (words : List ℕ) → StretchesPromise document 0 house 0 5 (replicate 4 99) r words
    → (r ≡ Err (refuse Argument 0)) × (words ≡ replicate 4 99)
unfolding in_octets table_octets octets_of sign_magnitude table_of values_from published reflectivity level_count stretch_answer words_after on_cut stretches_on right_t right_point bins_in rays_in bins_at rays_at field be
point_outside r words p =
    let w : r ≡ Err (refuse Argument 0) = p.answer ∙ ap (on_cut Err (stretches_on document house 0 5 4) 0) verdicts.document_is in
    (w, p.after ∙ ap (λ (a : Result Listing Refusal). words_after a document 0 house 0 5 (replicate 4 99)) w)

-- a value just at T called under; another house threshold (40.00 m/s is at 4000, and -40.00 under it); no data called under; a word past the entries changed
pub wind_list : (r : Result Listing Refusal) (words : List ℕ) → StretchesPromise wind 0 house 0 0 (replicate 18 99) r words
    → (r ≡ Ok (record { count = 4; ray = 1; bin = 0 }))
    × (words ≡ 0 ∷ 0 ∷ 1 ∷ 1 ∷ 0 ∷ 1 ∷ 1 ∷ 2 ∷ 0 ∷ 2 ∷ 1 ∷ 1 ∷ 0 ∷ 3 ∷ 1 ∷ 0 ∷ 99 ∷ 99 ∷ [])
unfolding in_octets table_octets octets_of sign_magnitude table_of values_from published reflectivity velocity_even velocity level_count stretch_answer words_after on_cut cut_at stretches_on right_t right_point stretches_in stretches_from answer_of out_of words_of list_from begins_after unbroken from_place reading_of kind_of product_in product_of parameter_at greatest_in data_at levels digit_sum bins_in rays_in length_at bins_at rays_at greatest_at field be
wind_list r words p =
    let lent : List ℕ = replicate 18 99 in
    let w : r ≡ Ok (record { count = 4; ray = 1; bin = 0 }) = p.answer ∙ ap (on_cut Err (stretches_on wind house 0 0 18) 0) verdicts.wind_is in (
      w,
      p.after
          ∙ ap (λ (a : Result Listing Refusal). words_after a wind 0 house 0 0 lent) w
          ∙ ap (λ (v : Verdict). out_of lent (stretches_in wind (cut_at 0 v) house 0 0)) verdicts.wind_is,
    )

-- another house threshold; the bins of the first cut for every cut (39.84 dBZ is under 4000, and 40.16 dBZ over it)
pub second_cut_list : (r : Result Listing Refusal) (words : List ℕ) → StretchesPromise two_cuts 1 house 0 0 (replicate 12 99) r words
    → (r ≡ Ok (record { count = 3; ray = 3; bin = 0 })) × (words ≡ 0 ∷ 0 ∷ 1 ∷ 1 ∷ 1 ∷ 0 ∷ 1 ∷ 2 ∷ 2 ∷ 0 ∷ 1 ∷ 0 ∷ [])
unfolding in_octets table_octets octets_of sign_magnitude table_of values_from published reflectivity velocity_even velocity level_count stretch_answer words_after on_cut cut_at stretches_on right_t right_point stretches_in stretches_from answer_of out_of words_of list_from begins_after unbroken from_place reading_of kind_of product_in product_of parameter_at greatest_in data_at levels digit_sum bins_in rays_in length_at bins_at rays_at greatest_at field be
second_cut_list r words p =
    let lent : List ℕ = replicate 12 99 in
    let w : r ≡ Ok (record { count = 3; ray = 3; bin = 0 }) = p.answer ∙ ap (on_cut Err (stretches_on two_cuts house 0 0 12) 1) verdicts.two_are in (
      w,
      p.after
          ∙ ap (λ (a : Result Listing Refusal). words_after a two_cuts 1 house 0 0 lent) w
          ∙ ap (λ (v : Verdict). out_of lent (stretches_in two_cuts (cut_at 1 v) house 0 0)) verdicts.two_are,
    )

-- FORMAT.md, "The lister", cut 0: a stretch carried over a ray's end, two stretches for two levels of one kind, a fixed list, ray 0 repeated, a count made up. Room for
-- three entries: the next point is the start of the fourth
pub document_list : (r : Result Listing Refusal) (words : List ℕ) → StretchesPromise document 0 house 0 0 (replicate 12 99) r words
    → (r ≡ Ok (record { count = 3; ray = 1; bin = 1 })) × (words ≡ 0 ∷ 0 ∷ 2 ∷ 0 ∷ 0 ∷ 2 ∷ 3 ∷ 2 ∷ 1 ∷ 0 ∷ 1 ∷ 2 ∷ [])
unfolding in_octets table_octets octets_of sign_magnitude table_of values_from published reflectivity velocity_even velocity level_count stretch_answer words_after on_cut cut_at stretches_on right_t right_point stretches_in stretches_from answer_of out_of words_of list_from begins_after unbroken from_place reading_of kind_of product_in product_of parameter_at greatest_in data_at levels digit_sum bins_in rays_in length_at bins_at rays_at greatest_at field be
document_list r words p =
    let lent : List ℕ = replicate 12 99 in
    let w : r ≡ Ok (record { count = 3; ray = 1; bin = 1 }) = p.answer ∙ ap (on_cut Err (stretches_on document house 0 0 12) 0) verdicts.document_is in (
      w,
      p.after
          ∙ ap (λ (a : Result Listing Refusal). words_after a document 0 house 0 0 lent) w
          ∙ ap (λ (v : Verdict). out_of lent (stretches_in document (cut_at 0 v) house 0 0)) verdicts.document_is,
    )

-- from that point on: the last two, and (Nr, 0)
pub document_rest : (r : Result Listing Refusal) (words : List ℕ) → StretchesPromise document 0 house 1 1 (replicate 12 99) r words
    → (r ≡ Ok (record { count = 2; ray = 2; bin = 0 })) × (words ≡ 1 ∷ 1 ∷ 3 ∷ 1 ∷ 1 ∷ 4 ∷ 1 ∷ 0 ∷ 99 ∷ 99 ∷ 99 ∷ 99 ∷ [])
unfolding in_octets table_octets octets_of sign_magnitude table_of values_from published reflectivity velocity_even velocity level_count stretch_answer words_after on_cut cut_at stretches_on right_t right_point stretches_in stretches_from answer_of out_of words_of list_from begins_after unbroken from_place reading_of kind_of product_in product_of parameter_at greatest_in data_at levels digit_sum bins_in rays_in length_at bins_at rays_at greatest_at field be
document_rest r words p =
    let lent : List ℕ = replicate 12 99 in
    let w : r ≡ Ok (record { count = 2; ray = 2; bin = 0 }) = p.answer ∙ ap (on_cut Err (stretches_on document house 1 1 12) 0) verdicts.document_is in (
      w,
      p.after
          ∙ ap (λ (a : Result Listing Refusal). words_after a document 0 house 1 1 lent) w
          ∙ ap (λ (v : Verdict). out_of lent (stretches_in document (cut_at 0 v) house 1 1)) verdicts.document_is,
    )
