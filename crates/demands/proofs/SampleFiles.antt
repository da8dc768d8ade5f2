-- Small whole files, and the verdict on each, computed: the samples of Wrong.antt. Each is made section by section, so that the octet that matters stands in sight.
use Prim.Native.Nat.{ℕ, ◌+◌, ◌*◌}
use mathlib.Core.Path.{◌≡◌, refl}
use mathlib.Core.List.{List, [], ◌∷◌, ◌++◌}
use lib.ListN.{length, drop, replicate}
use Rattle.octets.specs.Octets.{be, same, in_octets}
use Rattle.rules.specs.Rules.{field, meets, meets_all, rules0, rules1, rules6, rules8}
use Rattle.rules.specs.Fields.{length_at, number_at, bins_at, rays_at, points_at, parameter_at}
use Rattle.runs.specs.Run.{digit_sum, levels, gives, passed_from, fault_at}
use Rattle.values.specs.Published.{level_count, reflectivity, velocity_even, velocity, published, values_from, table_of}
use Rattle.values.specs.Table.{sign_magnitude, octets_of, table_octets, table_right}
use Rattle.values.specs.declared.Product.TheVariants.{Reflectivity, Velocity}
use Rattle.sections.specs.Refusal.{refuse}
use Rattle.sections.specs.Checks.{follows, framed, room_for_cut, section_checks, closes, checks_at}
use Rattle.sections.specs.History.{last_seen, first_seen, cuts_of, cuts_seen, context_of}
use Rattle.sections.specs.Verdict.{accepted, refused, sections, sized, verdict_by}
use Rattle.sections.specs.declared.Cut.{Cut}
use Rattle.sections.specs.declared.Why.TheVariants.{SectionLength, Field, Points, Data}
use Rattle.base_format.specs.Rules.{rules3, rules4, rules5}
use Rattle.base_format.specs.Fields.{site_at, greatest_at, count_at}
use Rattle.base_format.specs.Parts.{product_of, table_at, data_at}
use Rattle.base_format.specs.Checks.{base_checks, any_data_checks}
use Rattle.base_format.specs.Verdict.{verdict, any_data_verdict}

-- ── the sections ──

-- 0 and 1: how many octets the file has; section 1's length and month, of 2026, the 14th, 03:40:59
abbrev pub begin : ℕ → ℕ → ℕ → List ℕ
begin total length1 month =
    (71 ∷ 82 ∷ 73 ∷ 66 ∷ 255 ∷ 255 ∷ 0 ∷ 2 ∷ [])
    ++ in_octets 8 total
    ++ in_octets 4 length1
    ++ (1 ∷ 0 ∷ 34 ∷ 0 ∷ 0 ∷ 3 ∷ 1 ∷ 3 ∷ [])
    ++ in_octets 2 2026
    ++ (month ∷ 14 ∷ 3 ∷ 40 ∷ 59 ∷ 0 ∷ 7 ∷ [])

-- 8
abbrev pub eight : List ℕ
eight = 55 ∷ 55 ∷ 55 ∷ 55 ∷ []

-- a file of n octets in all, with the sections of its cuts
abbrev pub file : ℕ → List ℕ → List ℕ
file n cuts = begin n 21 6 ++ cuts ++ eight

-- 3: a point count, Nb, Nr, the latitude's four octets as a number; octet 39
abbrev pub three : ℕ → ℕ → ℕ → ℕ → ℕ → List ℕ
three points nb nr latitude octet39 =
    (0 ∷ 0 ∷ 0 ∷ 41 ∷ 3 ∷ 0 ∷ [])
    ++ in_octets 4 points
    ++ (0 ∷ 0 ∷ [])
    ++ in_octets 2 50120
    ++ in_octets 4 nb
    ++ in_octets 4 nr
    ++ in_octets 4 latitude
    ++ in_octets 4 139959722
    ++ in_octets 4 500000
    ++ in_octets 4 250
    ++ (octet39 ∷ [])
    ++ in_octets 2 4500

-- 4: the parameter, the site, the elevation constant's two octets as a number, Nr
abbrev pub four : ℕ → ℕ → ℕ → ℕ → List ℕ
four parameter site elevation nr =
    in_octets 4 (60 + 4 * nr)
    ++ (4 ∷ 0 ∷ 0 ∷ [])
    ++ in_octets 2 51022
    ++ (15 ∷ parameter ∷ 8 ∷ 1 ∷ 13 ∷ [])
    ++ replicate 14 255
    ++ in_octets 2 site
    ++ replicate 7 255
    ++ (2 ∷ 255 ∷ 255 ∷ 255 ∷ [])
    ++ in_octets 2 elevation
    ++ replicate 17 255
    ++ replicate (4 * nr) 0

-- 5: a point count, V, M as read, the value table
abbrev pub five : ℕ → ℕ → ℕ → List ℕ → List ℕ
five points v m table =
    in_octets 4 (17 + length table)
    ++ (5 ∷ [])
    ++ in_octets 4 points
    ++ in_octets 2 200
    ++ (8 ∷ [])
    ++ in_octets 2 v
    ++ in_octets 2 m
    ++ (2 ∷ [])
    ++ table

-- 6, with what may be too much; 7: the data
abbrev pub six : List ℕ → List ℕ
six more = in_octets 4 (6 + length more) ++ (6 ∷ 255 ∷ more)

abbrev pub seven : List ℕ → List ℕ
seven octets = in_octets 4 (5 + length octets) ++ (7 ∷ octets)

abbrev pub rest : List ℕ → List ℕ
rest octets = six [] ++ seven octets

abbrev pub reflectivity_table : List ℕ
reflectivity_table = table_octets Reflectivity

abbrev pub velocity_table : List ℕ
velocity_table = table_octets Velocity

abbrev pub cut_of : ℕ → ℕ → ℕ → ℕ → Cut
cut_of a b c d = record { section3 = a; section4 = b; section5 = c; section7 = d }

-- ── the files ──

-- as FORMAT.md's example under "The lister": reflectivity, two rays of five bins, V 130. With what may be spoiled: the point count and octet 39 of section 3; the
-- point count, M and the value table of section 5; the data
abbrev pub like_document : ℕ → ℕ → ℕ → ℕ → List ℕ → List ℕ → List ℕ
like_document points octet39 points5 m table octets =
    file 689 (three points 5 2 35859722 octet39 ++ four 1 47695 130 2 ++ five points5 130 m table ++ rest octets)

abbrev pub ten_bins : List ℕ
ten_bins = 0 ∷ 132 ∷ 130 ∷ 134 ∷ 1 ∷ 133 ∷ 0 ∷ []

abbrev pub document : List ℕ
document = like_document 10 0 10 252 reflectivity_table ten_bins

-- the data gives nine bins
abbrev pub data_short : List ℕ
data_short = like_document 10 0 10 252 reflectivity_table (0 ∷ 132 ∷ 130 ∷ 134 ∷ 1 ∷ 132 ∷ 0 ∷ [])

-- its first octet is above V
abbrev pub data_above : List ℕ
data_above = like_document 10 0 10 252 reflectivity_table (131 ∷ 132 ∷ 130 ∷ 134 ∷ 1 ∷ 133 ∷ 0 ∷ [])

-- its last run, of level 1, has a zero digit and one that adds 750 bins
abbrev pub data_long : List ℕ
data_long = like_document 10 0 10 252 reflectivity_table (0 ∷ 132 ∷ 130 ∷ 134 ∷ 1 ∷ 131 ∷ 137 ∷ [])

-- section 1: 22 octets, and month 13
abbrev pub long_one : List ℕ
long_one = begin 42 22 13 ++ (0 ∷ []) ++ eight

-- section 6: 7 octets
abbrev pub long_six : List ℕ
long_six = file 690 (three 10 5 2 35859722 0 ++ four 1 47695 130 2 ++ five 10 130 252 reflectivity_table ++ six (0 ∷ []) ++ seven ten_bins)

-- section 3: octet 39 is 1, and eleven points are said
abbrev pub field_and_points : List ℕ
field_and_points = like_document 11 1 10 252 reflectivity_table ten_bins

-- section 5: eleven points are said, and the first value is 1
abbrev pub points_and_table : List ℕ
points_and_table = like_document 10 0 11 252 (0 ∷ 1 ∷ drop 2 reflectivity_table) ten_bins

-- section 5: 521 octets, and M says 251
abbrev pub length_not_by_m : List ℕ
length_not_by_m = like_document 10 0 10 251 reflectivity_table ten_bins

-- velocity, one ray of four bins of 39.50, 40.00, -40.00 m/s and no data; its section 5 has 519 octets. With what may be spoiled: V
abbrev pub like_wind : ℕ → List ℕ
like_wind v = file 680 (three 4 4 1 35859722 0 ++ four 2 47695 130 1 ++ five 4 v 251 velocity_table ++ rest (158 ∷ 160 ∷ 161 ∷ 0 ∷ []))

abbrev pub wind : List ℕ
wind = like_wind 251

-- V is 252, which is over this product's M and is the other's
abbrev pub greater_wind_v : List ℕ
greater_wind_v = like_wind 252

-- two cuts, each with a section 3 of its own: one ray of two bins at latitude -0.000005, of 5.60 dBZ and no data, its elevation missing; three rays of one bin at latitude
-- 0.000007, of 39.84 dBZ, 40.16 dBZ and no data, its elevation -0.05. With what may be spoiled: the second cut's parameter, site, V and data
abbrev pub like_two : ℕ → ℕ → ℕ → List ℕ → List ℕ
like_two parameter site v octets =
    file (1325 + length octets)
    (three 2 2 1 0x80000005 0
    ++ four 1 47695 0xFFFF 1
    ++ five 2 252 252 reflectivity_table
    ++ rest (19 ∷ 0 ∷ [])
    ++ three 3 1 3 7 0
    ++ four parameter site 0x8005 3
    ++ five 3 v 252 reflectivity_table
    ++ rest octets)

abbrev pub three_bins : List ℕ
three_bins = 126 ∷ 127 ∷ 0 ∷ []

abbrev pub two_cuts : List ℕ
two_cuts = like_two 1 47695 252 three_bins

abbrev pub other_parameter : List ℕ
other_parameter = like_two 2 47695 252 three_bins

abbrev pub other_site : List ℕ
other_site = like_two 1 47696 252 three_bins

-- its own section 5 says V 253, under which runs could be read
abbrev pub greater_v : List ℕ
greater_v = like_two 1 47695 253 three_bins

-- the run of its second level has a zero digit and one that adds three bins
abbrev pub later_long : List ℕ
later_long = like_two 1 47695 252 (126 ∷ 127 ∷ 253 ∷ 254 ∷ [])

-- ── the verdicts ──

pub record Verdicts : Type 0 where
  pub document_is : verdict document ≡ accepted (cut_of 37 78 146 673 ∷ [])
  pub wind_is : verdict wind ≡ accepted (cut_of 37 78 142 667 ∷ [])
  pub two_are : verdict two_cuts ≡ accepted (cut_of 37 78 142 669 ∷ cut_of 676 717 789 1316 ∷ [])
  pub data_short_lem : verdict data_short ≡ refused (refuse Data 685)
  pub data_above_lem : verdict data_above ≡ refused (refuse Data 678)
  pub data_long_lem : verdict data_long ≡ refused (refuse Data 684)
  pub later_long_lem : verdict later_long ≡ refused (refuse Data 1324)
  -- without check 8
  pub data_short_any : any_data_verdict data_short ≡ accepted (cut_of 37 78 146 673 ∷ [])
  pub length_1 : verdict long_one ≡ refused (refuse SectionLength 16)
  pub length_6 : verdict long_six ≡ refused (refuse SectionLength 667)
  pub field_first : verdict field_and_points ≡ refused (refuse Field 37)
  pub points_first : verdict points_and_table ≡ refused (refuse Points 146)
  pub length_by_m : verdict length_not_by_m ≡ refused (refuse SectionLength 146)
  pub parameter_compared : verdict other_parameter ≡ refused (refuse Field 717)
  pub site_compared : verdict other_site ≡ refused (refuse Field 717)
  pub v_compared : verdict greater_v ≡ refused (refuse Field 789)
  pub v_by_m : verdict greater_wind_v ≡ refused (refuse Field 142)

pub verdicts : Verdicts
unfolding be same in_octets field meets meets_all rules0 rules1 rules3 rules4 rules5 rules6 rules8 length_at number_at bins_at rays_at points_at parameter_at site_at greatest_at count_at levels digit_sum gives passed_from fault_at level_count reflectivity velocity_even velocity published values_from table_of sign_magnitude octets_of table_octets table_right refuse follows framed room_for_cut section_checks closes checks_at last_seen first_seen cuts_of cuts_seen context_of sections sized verdict_by product_of table_at data_at base_checks any_data_checks
verdicts =
    record {
      document_is = refl;
      wind_is = refl;
      two_are = refl;
      data_short_lem = refl;
      data_above_lem = refl;
      data_long_lem = refl;
      later_long_lem = refl;
      data_short_any = refl;
      length_1 = refl;
      length_6 = refl;
      field_first = refl;
      points_first = refl;
      length_by_m = refl;
      parameter_compared = refl;
      site_compared = refl;
      v_compared = refl;
      v_by_m = refl;
    }
