-- No call on a file returns 12 to C: it returns 0, or the word of a file's refusal, which never has that number. By each answer's cases.
use Prim.Native.Nat.{ℕ, min}
use mathlib.Core.Path.{◌≡◌, sym, subst}
use mathlib.Core.List.{List}
use native.Mathlib.Omega.{arith}
use lib.ListN.{length}
use lib.IntN.{ℤ}
use lib.Ieee.{Float}
use Rattle.index.specs.declared.RayRecord.{RayRecord}
use Rattle.polar.specs.Opening.{open_answer, cut_answer}
use Rattle.polar.specs.Rays.{ray_answer}
use Rattle.polar.specs.Stretching.{stretch_answer}
use Rattle.records.specs.Records.{build_answer, from_answer}
use Rattle.dualpol.specs.Answers as D
use Rattle.c_words.specs.Word.{number_in}
use Rattle.c_words.specs.Files.{open_return, cut_return, ray_return, bin_return, stretch_return}
use Rattle.c_words.specs.Dual.{dual_open_return, dual_cut_return}
use Rattle.c_words.proofs.Word.{word_not_twelve}
use Rattle.polar_c.specs.Files.{OpenCall, CutCall, RayLevelsCall, RayValuesCall, BinAnswered, StretchesCall}
use Rattle.polar_c.specs.Records.{BuildIndexCall, RayLevelsFromCall, RayValuesFromCall}
use Rattle.polar_c.specs.Dual.{DualOpenCall, DualCutCall}
use Rattle.dualpol.specs.declared.DualSummary.{DualSummary}
use Rattle.polar.specs.declared.CutInfo.{CutInfo}
use Rattle.polar.specs.declared.Summary.{Summary}
use Rattle.sections.specs.declared.Grid.{Grid}
use Rattle.sections.specs.declared.Refusal.{Refusal}
use Rattle.stretches.specs.declared.Listing.{Listing}
use Rattle.std.specs.Prelude.{Err, None, Ok, Option, Result, Some, ⊤}

abbrev pub NotTwelve : ℕ → Type 0
NotTwelve word = number_in word ≡ 12 → ⊥

zero_word : NotTwelve 0
zero_word e = omega arith

open_word : (a : Result Summary Refusal) → NotTwelve (open_return a)
open_word (Ok f) = zero_word
open_word (Err r) = word_not_twelve r

cut_word : (a : Result CutInfo Refusal) → NotTwelve (cut_return a)
cut_word (Ok i) = zero_word
cut_word (Err r) = word_not_twelve r

ray_word : (a : Result ⊤ Refusal) → NotTwelve (ray_return a)
ray_word (Ok tt) = zero_word
ray_word (Err r) = word_not_twelve r

bin_word : (a : Result (Option Float) Refusal) → NotTwelve (bin_return a)
bin_word (Ok None) = zero_word
bin_word (Ok (Some x)) = zero_word
bin_word (Err r) = word_not_twelve r

stretch_word : (a : Result Listing Refusal) → NotTwelve (stretch_return a)
stretch_word (Ok l) = zero_word
stretch_word (Err r) = word_not_twelve r

dual_open_word : (a : Result DualSummary Refusal) → NotTwelve (dual_open_return a)
dual_open_word (Ok f) = zero_word
dual_open_word (Err r) = word_not_twelve r

dual_cut_word : (a : Result Grid Refusal) → NotTwelve (dual_cut_return a)
dual_cut_word (Ok g) = zero_word
dual_cut_word (Err r) = word_not_twelve r

-- what is returned is the word of an answer
same : {w x : ℕ} → w ≡ x → NotTwelve x → NotTwelve w
same e h = subst NotTwelve (sym e) h

pub open_not_twelve : (file : List ℕ) {answer : List ℕ} {w : ℕ} {answer' : List ℕ} → OpenCall file answer w answer' → NotTwelve w
open_not_twelve file p = same p.returned (open_word (open_answer file))

pub cut_not_twelve : (file : List ℕ) (cut : ℕ) {answer : List ℤ} {w : ℕ} {answer' : List ℤ} → CutCall file cut answer w answer' → NotTwelve w
cut_not_twelve file cut p = same p.returned (cut_word (cut_answer file cut))

pub ray_levels_not_twelve : {file : List ℕ} {cut ray : ℕ} {lent : List ℕ} {w : ℕ} {lent' : List ℕ} → RayLevelsCall file cut ray lent w lent' → NotTwelve w
ray_levels_not_twelve {file} {cut} {ray} {lent} p = same p.returned (ray_word (ray_answer file cut ray (length lent)))

pub ray_values_not_twelve : {file : List ℕ} {cut ray : ℕ} {marks : List ℕ} {values : List ℤ} {w : ℕ} {marks' : List ℕ} {values' : List ℤ}
    → RayValuesCall file cut ray marks values w marks' values' → NotTwelve w
ray_values_not_twelve {file} {cut} {ray} {marks} {values} p = same p.returned (ray_word (ray_answer file cut ray (min (length marks) (length values))))

-- of bin value, in both formats
pub bin_not_twelve : {r : Result (Option Float) Refusal} {value : Float} {answer : List ℕ} {w : ℕ} {value' : Float} {answer' : List ℕ} → BinAnswered r value answer w value' answer' → NotTwelve w
bin_not_twelve {r} p = same p.returned (bin_word r)

-- of both stretch calls
pub stretches_not_twelve : {file : List ℕ} {cut : ℕ} {t : ℤ} {ray bin : ℕ} {lent answer : List ℕ} {w : ℕ} {lent' answer' : List ℕ}
    → StretchesCall file cut t ray bin lent answer w lent' answer' → NotTwelve w
stretches_not_twelve {file} {cut} {t} {ray} {bin} {lent} p = same p.returned (stretch_word (stretch_answer file cut t ray bin (length lent)))

pub build_index_not_twelve : {file : List ℕ} {cut : ℕ} {lent : List RayRecord} {w : ℕ} {lent' : List RayRecord} → BuildIndexCall file cut lent w lent' → NotTwelve w
build_index_not_twelve {file} {cut} {lent} p = same p.returned (ray_word (build_answer file cut (length lent)))

pub ray_levels_from_not_twelve : {file : List ℕ} {cut ray offset before : ℕ} {lent : List ℕ} {w : ℕ} {lent' : List ℕ}
    → RayLevelsFromCall file cut ray offset before lent w lent' → NotTwelve w
ray_levels_from_not_twelve {file} {cut} {ray} {offset} {before} {lent} p =
    same p.returned (ray_word (from_answer file cut ray (record { offset = offset; before = before }) (length lent)))

pub ray_values_from_not_twelve : {file : List ℕ} {cut ray offset before : ℕ} {marks : List ℕ} {values : List ℤ} {w : ℕ} {marks' : List ℕ} {values' : List ℤ}
    → RayValuesFromCall file cut ray offset before marks values w marks' values' → NotTwelve w
ray_values_from_not_twelve {file} {cut} {ray} {offset} {before} {marks} {values} p =
    same p.returned (ray_word (from_answer file cut ray (record { offset = offset; before = before }) (min (length marks) (length values))))

pub dual_open_not_twelve : (file : List ℕ) {answer : List ℕ} {w : ℕ} {answer' : List ℕ} → DualOpenCall file answer w answer' → NotTwelve w
dual_open_not_twelve file p = same p.returned (dual_open_word (D.open_answer file))

pub dual_cut_not_twelve : (file : List ℕ) (cut : ℕ) {answer : List ℤ} {w : ℕ} {answer' : List ℤ} → DualCutCall file cut answer w answer' → NotTwelve w
dual_cut_not_twelve file cut p = same p.returned (dual_cut_word (D.cut_answer file cut))
