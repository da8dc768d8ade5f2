-- FORMAT.md, "Calls": what open and cut answer.
use Rattle.std.specs.Prelude.{ℕ, List, cond, eqb, Err, None, Ok, Option, Result, Some, ℤ}
use Rattle.octets.specs.Octets.{signed}
use Rattle.rules.specs.Rules.{field}
use Rattle.base_format.specs.Fields.{site_at}
use Rattle.sections.specs.Parts.{time_of, grid_at}
use Rattle.base_format.specs.Parts.{product_in}
use Rattle.base_format.specs.Verdict.{verdict}
use Rattle.sections.specs.declared.Cut.{Cut}
use Rattle.calls.specs.Cuts.{on_file, on_cut}
use Rattle.polar.specs.declared.Summary.{Summary}
use Rattle.polar.specs.declared.CutInfo.{CutInfo}
use Rattle.sections.specs.declared.Refusal.{Refusal}

-- "product, time, site, number of cuts": product and site are those of the first cut's section 4
abbrev pub summary_of : List ℕ → ℕ → Cut → Summary
summary_of s n c =
    record {
      product = product_in s c;
      time = time_of s;
      site = site_at s c.section4;
      cuts = n;
    }

unfoldable pub open_answer : List ℕ → Result Summary Refusal
open_answer s = on_file Err (λ n c. Ok (summary_of s n c)) (verdict s)

-- octets 42-43 of section 4: "Elevation constant 0xFFFF means missing, not -32767"
unfoldable pub elevation_of : ℕ → Option ℤ
elevation_of n = cond (eqb n 0xFFFF) None (Some (signed 2 n))

-- "Nb, Nr, latitude, longitude, Dx, Dstart, start azimuth, mode of operation, elevation constant or missing"
unfoldable pub info_of : List ℕ → Cut → CutInfo
info_of s c =
    record {
      grid = grid_at s c.section3;
      start_azimuth = field s c.section3 40 2;
      mode = field s c.section4 38 1;
      elevation = elevation_of (field s c.section4 42 2);
    }

unfoldable pub cut_answer : List ℕ → ℕ → Result CutInfo Refusal
cut_answer s i = on_cut Err (λ c. Ok (info_of s c)) i (verdict s)
