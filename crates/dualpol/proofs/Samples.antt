-- WRONG PROGRAMS that read a dual-polarisation file, each shut out on a small whole file whose verdict is computed: what the promise allows there is written out. The line above
-- each theorem names the program.
use Prim.Native.Nat.{ℕ, ◌+◌, ◌*◌}
use mathlib.Core.Path.{◌≡◌, refl, ◌∙◌, ap}
use mathlib.Core.List.{List, [], ◌∷◌, ◌++◌}
use mathlib.Core.Bool.{false}
use lib.IntN.{negsuc}
use lib.ListN.{length, replicate}
use lib.Ieee.{fin, add, div, of_int, of_bits}
use Rattle.octets.specs.Octets.{be, signed, in_octets}
use Rattle.rules.specs.Rules.{field, meets, meets_all, rules0, rules1, rules6, rules8}
use Rattle.rules.specs.Fields.{length_at, number_at, bins_at, rays_at, points_at, parameter_at}
use Rattle.scaled.specs.Scaled.{cell_of, scaled_value}
use Rattle.sections.specs.Refusal.{refuse}
use Rattle.sections.specs.Checks.{follows, framed, room_for_cut, section_checks, closes, checks_at}
use Rattle.sections.specs.History.{last_seen, first_seen, cuts_of, cuts_seen, context_of}
use Rattle.sections.specs.Parts.{bins_in, rays_in, time_of, grid_at}
use Rattle.sections.specs.Verdict.{accepted, refused, sections, sized, verdict_by}
use Rattle.sections.specs.declared.Cut.{Cut}
use Rattle.sections.specs.declared.Refusal.{Refusal}
use Rattle.sections.specs.declared.Why.TheVariants.{SectionLength, Field, Argument, Unread}
use Rattle.dual_format.specs.Rules.{rules3, scan_rules, rules4, rules5}
use Rattle.dual_format.specs.Fields.{with_lists, site_at, reference_at, binary_scale_at, decimal_scale_at, width_at, length7}
use Rattle.dual_format.specs.Checks.{dual_checks}
use Rattle.dual_format.specs.Verdict.{verdict}
use Rattle.dual_format.specs.Parts.{reference_in, binary_scale_in, decimal_scale_in, width_in, cell_in, told_in}
use Rattle.calls.specs.Cuts.{on_file, on_cut}
use Rattle.dualpol.specs.Answers.{summary_of, open_answer, OpenPromise, cut_answer, CutPromise, bin_on, bin_answer, BinPromise}
use Rattle.dualpol.specs.declared.DualSummary.{DualSummary}
use Rattle.sections.specs.declared.Grid.{Grid}
use Rattle.std.specs.Prelude.{Err, None, Ok, Option, Result, Some, Float}

-- ── the sections ──

-- a file of n octets in all: section 0; section 1; the sections of its cuts; section 8
abbrev file : ℕ → List ℕ → List ℕ
file n cuts =
    (71 ∷ 82 ∷ 73 ∷ 66 ∷ 255 ∷ 255 ∷ 0 ∷ 2 ∷ [])
    ++ in_octets 8 n
    ++ (0 ∷ 0 ∷ 0 ∷ 21 ∷ 1 ∷ 0 ∷ 34 ∷ 0 ∷ 0 ∷ 3 ∷ 1 ∷ 3 ∷ [])
    ++ in_octets 2 2026
    ++ (6 ∷ 14 ∷ 3 ∷ 40 ∷ 59 ∷ 0 ∷ 7 ∷ [])
    ++ cuts
    ++ (55 ∷ 55 ∷ 55 ∷ 55 ∷ [])

-- 3, where each ray's elevation is stored: a point count, Nb, Nr; octets 39 and 40
abbrev three : ℕ → ℕ → ℕ → ℕ → ℕ → List ℕ
three points nb nr octet39 octet40 =
    in_octets 4 (58 + 2 * nr)
    ++ (3 ∷ 0 ∷ [])
    ++ in_octets 4 points
    ++ (0 ∷ 0 ∷ [])
    ++ in_octets 2 50121
    ++ in_octets 4 nb
    ++ in_octets 4 nr
    ++ in_octets 4 0x80000005
    ++ in_octets 4 139959722
    ++ in_octets 4 250000
    ++ in_octets 4 125
    ++ (octet39 ∷ octet40 ∷ [])
    ++ replicate 12 255
    ++ (0 ∷ 1 ∷ [])
    ++ replicate (4 + 2 * nr) 0

-- 4: its octets from 56 on, the first two of which are flags
abbrev four : List ℕ → List ℕ
four past =
    in_octets 4 (55 + length past)
    ++ (4 ∷ 0 ∷ 0 ∷ [])
    ++ in_octets 2 51123
    ++ (15 ∷ 195 ∷ 8 ∷ 1 ∷ [])
    ++ replicate 14 255
    ++ in_octets 2 47695
    ++ (255 ∷ 255 ∷ 13 ∷ [])
    ++ replicate 9 255
    ++ (2 ∷ [])
    ++ replicate 13 255
    ++ past

-- 5, where R is -1.5 and D 2: a point count, E, the width
abbrev five : ℕ → ℕ → ℕ → List ℕ
five points e width =
    (0 ∷ 0 ∷ 0 ∷ 21 ∷ 5 ∷ [])
    ++ in_octets 4 points
    ++ (0 ∷ 0 ∷ [])
    ++ in_octets 4 0xBFC00000
    ++ in_octets 2 e
    ++ in_octets 2 2
    ++ (width ∷ 255 ∷ [])

-- 6 and 7: the cells' octets
abbrev rest : List ℕ → List ℕ
rest cells = (0 ∷ 0 ∷ 0 ∷ 6 ∷ 6 ∷ 255 ∷ []) ++ in_octets 4 (5 + length cells) ++ (7 ∷ cells)

-- ── the files ──

-- 201, all ones; 3, 258
abbrev cells_of_4 : List ℕ
cells_of_4 = 0 ∷ 201 ∷ 255 ∷ 255 ∷ 0 ∷ 3 ∷ 1 ∷ 2 ∷ []

-- a section 4 that is longer than it need be
abbrev four_long : List ℕ
four_long = four (replicate 8 0)

-- two rays of two bins, in cells of 16 bits, E being 1
abbrev first_cut : List ℕ
first_cut = three 4 2 2 0 255 ++ four_long ++ five 4 1 16 ++ rest cells_of_4

abbrev pub four_cells : List ℕ
four_cells = file 206 first_cut

-- a second cut, of three rays of one bin
abbrev pub two_cuts_lem : List ℕ
two_cuts_lem = file 371 (first_cut ++ three 3 1 3 0 255 ++ four_long ++ five 3 1 16 ++ rest (replicate 6 0))

-- section 3: an RHI scan, and five points are said; octet 40 is not missing
abbrev pub rhi : List ℕ
rhi = file 206 (three 5 2 2 1 255 ++ four_long ++ five 4 1 16 ++ rest cells_of_4)

abbrev pub octet_40_said : List ℕ
octet_40_said = file 206 (three 4 2 2 0 0 ++ four_long ++ five 4 1 16 ++ rest cells_of_4)

-- section 4: a list of two octets for each of two rays is there, and the section has 64 octets in place of 65 at least
abbrev pub four_short : List ℕ
four_short = file 207 (three 4 2 2 0 255 ++ four (1 ∷ replicate 8 0) ++ five 4 1 16 ++ rest cells_of_4)

-- section 5: E is 3, the width 64, and five points are said; the width and the points
abbrev pub field_unread_points : List ℕ
field_unread_points = file 206 (three 4 2 2 0 255 ++ four_long ++ five 5 3 64 ++ rest cells_of_4)

abbrev pub unread_points : List ℕ
unread_points = file 206 (three 4 2 2 0 255 ++ four_long ++ five 5 1 64 ++ rest cells_of_4)

-- section 7: an octet short of its four cells
abbrev pub cells_short : List ℕ
cells_short = file 205 (three 4 2 2 0 255 ++ four_long ++ five 4 1 16 ++ rest (replicate 7 0))

abbrev cut_of : ℕ → ℕ → ℕ → ℕ → Cut
cut_of a b c d = record { section3 = a; section4 = b; section5 = c; section7 = d }

pub record Verdicts : Type 0 where
  pub cells_are : verdict four_cells ≡ accepted (cut_of 37 99 162 189 ∷ [])
  pub two_are : verdict two_cuts_lem ≡ accepted (cut_of 37 99 162 189 ∷ cut_of 202 266 329 356 ∷ [])
  pub no_rhi : verdict rhi ≡ refused (refuse Unread 37)
  pub no_octet_40 : verdict octet_40_said ≡ refused (refuse Unread 37)
  pub length_4 : verdict four_short ≡ refused (refuse SectionLength 99)
  pub field_first : verdict field_unread_points ≡ refused (refuse Field 162)
  pub unread_next : verdict unread_points ≡ refused (refuse Unread 162)
  pub length_7 : verdict cells_short ≡ refused (refuse SectionLength 189)

verdicts : Verdicts
unfolding be in_octets field meets meets_all rules0 rules1 rules3 scan_rules rules4 rules5 rules6 rules8 length_at number_at bins_at rays_at points_at parameter_at site_at reference_at width_at with_lists length7 refuse follows framed room_for_cut section_checks closes checks_at last_seen first_seen cuts_of cuts_seen context_of sections sized verdict_by dual_checks
verdicts =
    record {
      cells_are = refl;
      two_are = refl;
      no_rhi = refl;
      no_octet_40 = refl;
      length_4 = refl;
      field_first = refl;
      unread_next = refl;
      length_7 = refl;
    }

-- ── the promises on them ──

open_by : (s : List ℕ) (q : Refusal) → verdict s ≡ refused q → (r : Result DualSummary Refusal) → OpenPromise s r → r ≡ Err q
unfolding open_answer on_file
open_by s q h r p = p ∙ ap (on_file Err (λ n c. Ok (summary_of s n c))) h

-- 14 tested before 5
pub field_before_unread : (r : Result DualSummary Refusal) → OpenPromise field_unread_points r → r ≡ Err (refuse Field 162)
field_before_unread = open_by field_unread_points _ verdicts.field_first

-- 6 tested before 14; a width of 64 taken
pub unread_before_points : (r : Result DualSummary Refusal) → OpenPromise unread_points r → r ≡ Err (refuse Unread 162)
unread_before_points = open_by unread_points _ verdicts.unread_next

-- an RHI scan taken
pub rhi_unread : (r : Result DualSummary Refusal) → OpenPromise rhi r → r ≡ Err (refuse Unread 37)
rhi_unread = open_by rhi _ verdicts.no_rhi

-- octet 40 not judged
pub octet_40_unread : (r : Result DualSummary Refusal) → OpenPromise octet_40_said r → r ≡ Err (refuse Unread 37)
octet_40_unread = open_by octet_40_said _ verdicts.no_octet_40

-- a section 4 of any length taken; its lists not counted
pub length_of_4 : (r : Result DualSummary Refusal) → OpenPromise four_short r → r ≡ Err (refuse SectionLength 99)
length_of_4 = open_by four_short _ verdicts.length_4

-- too few cells taken
pub length_of_7 : (r : Result DualSummary Refusal) → OpenPromise cells_short r → r ≡ Err (refuse SectionLength 189)
length_of_7 = open_by cells_short _ verdicts.length_7

-- a wrong time or count; the site from the base format's octets; a parameter of the base format alone; a section 4 of 61 octets only; no list for each ray
pub open_cells : (r : Result DualSummary Refusal) → OpenPromise four_cells r
    → r ≡ Ok (record { parameter = 195; time = record { year = 2026; month = 6; day = 14; hour = 3; minute = 40; second = 59 }; site = 47695; cuts = 1 })
unfolding in_octets open_answer on_file time_of parameter_at site_at field be
open_cells r p = p ∙ ap (on_file Err (λ n c. Ok (summary_of four_cells n c))) verdicts.cells_are

-- latitude as two's complement
pub cut_cells : (r : Result Grid Refusal) → CutPromise four_cells 0 r → r ≡ Ok (record { nb = 2; nr = 2; latitude = negsuc 4; longitude = 139959722; dx = 250000; dstart = 125 })
unfolding in_octets cut_answer on_cut grid_at bins_at rays_at signed field be
cut_cells r p = p ∙ ap (on_cut Err (λ c. Ok (grid_at four_cells c.section3)) 0) verdicts.cells_are

-- cut 0 for every cut
pub own_section_3 : (r : Result Grid Refusal) → CutPromise two_cuts_lem 1 r → r ≡ Ok (record { nb = 1; nr = 3; latitude = negsuc 4; longitude = 139959722; dx = 250000; dstart = 125 })
unfolding in_octets cut_answer on_cut grid_at bins_at rays_at signed field be
own_section_3 r p = p ∙ ap (on_cut Err (λ c. Ok (grid_at two_cuts_lem c.section3)) 1) verdicts.two_are

-- all ones given a number
pub all_ones_missing : (r : Result (Option Float) Refusal) → BinPromise four_cells 0 0 1 r → r ≡ (Ok None)
unfolding in_octets bin_answer on_cut bin_on told_in cell_of cell_in width_in width_at bins_in rays_in bins_at rays_at field be
all_ones_missing r p = p.answer ∙ ap (on_cut Err (bin_on four_cells 0 1) 0) verdicts.cells_are

-- another bin's cell; the sign of R dropped; E as decimal; D as binary: (-1.5 + 3 x 2) / 100 is 0.045
pub ray_1_bin_0 : (r : Result (Option Float) Refusal) → BinPromise four_cells 0 1 0 r → r ≡ Ok (Some (fin false 3242591731706757 (negsuc 55)))
unfolding in_octets bin_answer on_cut bin_on told_in cell_of scaled_value add div of_int of_bits cell_in reference_in binary_scale_in decimal_scale_in width_in reference_at binary_scale_at decimal_scale_at width_at bins_in rays_in bins_at rays_at field be
ray_1_bin_0 r p = p.answer ∙ ap (on_cut Err (bin_on four_cells 1 0) 0) verdicts.cells_are

-- 16-bit cells read least octet first: 0x0102 is 258, and (-1.5 + 258 x 2) / 100 is 5.145
pub ray_1_bin_1 : (r : Result (Option Float) Refusal) → BinPromise four_cells 0 1 1 r → r ≡ Ok (Some (fin false 1448188755176325 (negsuc 47)))
unfolding in_octets bin_answer on_cut bin_on told_in cell_of scaled_value add div of_int of_bits cell_in reference_in binary_scale_in decimal_scale_in width_in reference_at binary_scale_at decimal_scale_at width_at bins_in rays_in bins_at rays_at field be
ray_1_bin_1 r p = p.answer ∙ ap (on_cut Err (bin_on four_cells 1 1) 0) verdicts.cells_are

-- a bin past the ray taken
pub bin_past_ray : (r : Result (Option Float) Refusal) → BinPromise four_cells 0 0 2 r → r ≡ Err (refuse Argument 0)
unfolding in_octets bin_answer on_cut bin_on bins_in rays_in bins_at rays_at field be
bin_past_ray r p = p.answer ∙ ap (on_cut Err (bin_on four_cells 0 2) 0) verdicts.cells_are
