-- FORMAT.md, "Dual-polarisation files": what open, cut and bin value of a dual-polarisation file answer, for any octets and arguments.
use Rattle.std.specs.Prelude.{ℕ, ◌≡◌, List, true, ◌&&◌, ltb, Err, None, Ok, Option, Result, Some, Float}
use Rattle.rules.specs.Fields.{parameter_at}
use Rattle.scaled.specs.Scaled.{Right}
use Rattle.sections.specs.Parts.{bins_in, rays_in, time_of, grid_at}
use Rattle.sections.specs.declared.Cut.{Cut}
use Rattle.dual_format.specs.Fields.{site_at}
use Rattle.dual_format.specs.Parts.{reference_in, binary_scale_in, decimal_scale_in, cell_in, told_in}
use Rattle.dual_format.specs.Verdict.{verdict}
use Rattle.calls.specs.Cuts.{on_file, on_cut, judged, cut_at}
use Rattle.dualpol.specs.declared.DualSummary.{DualSummary}
use Rattle.sections.specs.declared.Grid.{Grid}
use Rattle.sections.specs.declared.Refusal.{Refusal}

-- ── open: as in the base format, with the parameter's number for the product; parameter and site are those of the first cut's section 4 ──

abbrev pub summary_of : List ℕ → ℕ → Cut → DualSummary
summary_of s n c = record { parameter = parameter_at s c.section4; time = time_of s; site = site_at s c.section4; cuts = n }

unfoldable pub open_answer : List ℕ → Result DualSummary Refusal
open_answer s = on_file Err (λ n c. Ok (summary_of s n c)) (verdict s)

abbrev pub OpenPromise : List ℕ → Result DualSummary Refusal → Type 0
OpenPromise s r = r ≡ open_answer s

-- ── cut: "Nb to Dstart" ──

unfoldable pub cut_answer : List ℕ → ℕ → Result Grid Refusal
cut_answer s i = on_cut Err (λ c. Ok (grid_at s c.section3)) i (verdict s)

abbrev pub CutPromise : List ℕ → ℕ → Result Grid Refusal → Type 0
CutPromise s i r = r ≡ cut_answer s i

-- ── bin value: what the bin's cell tells; 10 for the ray or the bin ──

unfoldable pub bin_on : List ℕ → ℕ → ℕ → Cut → Result (Option Float) Refusal
bin_on s ray bin c = judged Err c (ltb ray (rays_in s c) && ltb bin (bins_in s c)) true true (Ok (told_in s c ray bin))

unfoldable pub bin_answer : List ℕ → ℕ → ℕ → ℕ → Result (Option Float) Refusal
bin_answer s i ray bin = on_cut Err (bin_on s ray bin) i (verdict s)

-- a value is within |Y| / 2^51 of the exact Y, and zero where Y is 0
abbrev pub RightIn : List ℕ → ℕ → ℕ → Cut → Result (Option Float) Refusal → Type 0
RightIn s ray bin c (Ok None) = Unit {0}
RightIn s ray bin c (Ok (Some y)) = Right y (reference_in s c) (cell_in s c ray bin) (binary_scale_in s c) (decimal_scale_in s c)
RightIn s ray bin c (Err q) = Unit {0}

pub record BinPromise (s : List ℕ) (i ray bin : ℕ) (r : Result (Option Float) Refusal) : Type 0 where
  pub answer : r ≡ bin_answer s i ray bin
  pub near : RightIn s ray bin (cut_at i (verdict s)) r
