-- How the calls of a file answer by C's rules: what they return, and the words of their answers, set only where nothing is refused.
use Rattle.std.specs.Prelude.{ℕ, List, [], ◌∷◌, ℤ, pos, Float, Err, None, Ok, Option, Result, Some, ⊤}
use Rattle.std.proofs.lemmas.List.Edits.{sets}
use Rattle.base_format.specs.Parts.{product_number}
use Rattle.sections.specs.declared.Time.{Time}
use Rattle.sections.specs.declared.Grid.{Grid}
use Rattle.polar.specs.declared.CutInfo.{CutInfo}
use Rattle.c_words.specs.Word.{word_of}
use Rattle.polar.specs.declared.Summary.{Summary}
use Rattle.sections.specs.declared.Refusal.{Refusal}
use Rattle.stretches.specs.declared.Listing.{Listing}

-- ---- open

abbrev pub open_return : Result Summary Refusal → ℕ
open_return (Ok f) = 0
open_return (Err r) = word_of r

-- product, year, month, day, hour, minute, second, site, number of cuts
abbrev pub summary_words : ℕ → Time → ℕ → ℕ → List ℕ
summary_words product time site cuts =
    product
    ∷ time.year
    ∷ time.month
    ∷ time.day
    ∷ time.hour
    ∷ time.minute
    ∷ time.second
    ∷ site
    ∷ cuts
    ∷ []

abbrev pub open_words : Result Summary Refusal → List ℕ → List ℕ
open_words (Ok f) w = sets w 0 (summary_words (product_number f.product) f.time f.site f.cuts)
open_words (Err r) w = w

-- ---- cut

abbrev pub cut_return : Result CutInfo Refusal → ℕ
cut_return (Ok info) = 0
cut_return (Err r) = word_of r

-- 0 where the elevation is missing; 1 and the elevation where it is known
abbrev pub elevation_words : Option ℤ → List ℤ
elevation_words None = pos 0 ∷ []
elevation_words (Some z) = pos 1 ∷ z ∷ []

-- Nb, Nr, latitude, longitude, Dx, Dstart, and what comes after
abbrev pub grid_words : Grid → List ℤ → List ℤ
grid_words grid rest =
    pos grid.nb
    ∷ pos grid.nr
    ∷ grid.latitude
    ∷ pos grid.longitude
    ∷ pos grid.dx
    ∷ pos grid.dstart
    ∷ rest

-- these, then start azimuth, mode of operation, elevation
abbrev pub info_words : CutInfo → List ℤ
info_words info = grid_words info.grid (pos info.start_azimuth ∷ pos info.mode ∷ elevation_words info.elevation)

abbrev pub cut_words : Result CutInfo Refusal → List ℤ → List ℤ
cut_words (Ok info) w = sets w 0 (info_words info)
cut_words (Err r) w = w

-- ---- rays and bins

-- of the ray calls, by a record or without one, and of index building
abbrev pub ray_return : Result ⊤ Refusal → ℕ
ray_return (Ok tt) = 0
ray_return (Err r) = word_of r

abbrev pub bin_return : Result (Option Float) Refusal → ℕ
bin_return (Ok None) = 0
bin_return (Ok (Some x)) = 0
bin_return (Err r) = word_of r

-- mark (0 missing, 1 measured)
abbrev pub bin_words : Result (Option Float) Refusal → List ℕ → List ℕ
bin_words (Ok None) w = sets w 0 (0 ∷ [])
bin_words (Ok (Some x)) w = sets w 0 (1 ∷ [])
bin_words (Err r) w = w

-- the lent float: the value where the bin is measured, else what it held
abbrev pub bin_held : Result (Option Float) Refusal → Float → Float
bin_held (Ok None) old = old
bin_held (Ok (Some x)) old = x
bin_held (Err r) old = old

-- ---- stretches

abbrev pub stretch_return : Result Listing Refusal → ℕ
stretch_return (Ok l) = 0
stretch_return (Err r) = word_of r

-- count of entries, the next point's ray and bin
abbrev pub stretch_words : Result Listing Refusal → List ℕ → List ℕ
stretch_words (Ok l) w = sets w 0 (l.count ∷ l.ray ∷ l.bin ∷ [])
stretch_words (Err r) w = w
