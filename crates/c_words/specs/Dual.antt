-- How the calls of a dual-polarisation file answer by C's rules: as those of the base format's files do.
use Rattle.std.specs.Prelude.{ℕ, List, [], ℤ, Err, Ok, Result}
use Rattle.std.proofs.lemmas.List.Edits.{sets}
use Rattle.c_words.specs.Word.{word_of}
use Rattle.c_words.specs.Files.{summary_words, grid_words}
use Rattle.dualpol.specs.declared.DualSummary.{DualSummary}
use Rattle.sections.specs.declared.Grid.{Grid}
use Rattle.sections.specs.declared.Refusal.{Refusal}

abbrev pub dual_open_return : Result DualSummary Refusal → ℕ
dual_open_return (Ok f) = 0
dual_open_return (Err r) = word_of r

-- parameter, year, month, day, hour, minute, second, site, number of cuts
abbrev pub dual_open_words : Result DualSummary Refusal → List ℕ → List ℕ
dual_open_words (Ok f) w = sets w 0 (summary_words f.parameter f.time f.site f.cuts)
dual_open_words (Err r) w = w

abbrev pub dual_cut_return : Result Grid Refusal → ℕ
dual_cut_return (Ok grid) = 0
dual_cut_return (Err r) = word_of r

-- Nb, Nr, latitude, longitude, Dx, Dstart
abbrev pub dual_cut_words : Result Grid Refusal → List ℤ → List ℤ
dual_cut_words (Ok grid) w = sets w 0 (grid_words grid [])
dual_cut_words (Err r) w = w
