-- WRONG PROGRAMS at C's boundary, each shut out on a small sample: what the promise to C allows there is written out, the word that is returned and every lent memory. It is
-- the library's answer in words, so each theorem goes by what `demands` and `indexed` show of that answer. The line above each names the program.
use Prim.Native.Nat.{ℕ, ◌+◌, ◌*◌}
use mathlib.Core.Path.{◌≡◌, refl, sym, ◌∙◌, ap}
use mathlib.Core.List.{List, [], ◌∷◌}
use lib.IntN.{ℤ, pos, negsuc}
use lib.ListN.{replicate}
use Rattle.packing.specs.Write.{greatest, digits_up_to, digits_of, code, on_from, written}
use Rattle.runs.specs.Run.{digit_sum, levels, gives, passed_from, fault_at}
use Rattle.bare.specs.Read.{read_answer, check_answer}
use Rattle.bare.specs.Write.{write_answer}
use Rattle.index.specs.declared.RayRecord.{RayRecord}
use Rattle.sections.specs.Refusal.{refuse}
use Rattle.stretches.specs.Call.{right_t}
use Rattle.polar.specs.Opening.{open_answer, cut_answer}
use Rattle.polar.specs.Rays.{ray_answer}
use Rattle.polar.specs.Stretching.{stretch_answer, words_after, house}
use Rattle.records.specs.Records.{from_answer, levels_from}
use Rattle.demands.proofs.SampleFiles.{document, data_short, wind, two_cuts}
use Rattle.demands.proofs.Wrong as W
use Rattle.indexed.proofs.Samples as I
use Rattle.c_words.specs.Files.{open_return, open_words, cut_return, cut_words, ray_return, stretch_return, stretch_words}
use Rattle.c_words.proofs.Arguments.{stretch_narrow}
use Rattle.polar_c.specs.Runs.{RunCheckCall, RunReadCall, RunWriteCall}
use Rattle.polar_c.specs.Records.{RayLevelsFromCall}
use Rattle.polar_c.specs.Files.{OpenCall, CutCall, RayLevelsCall, RayValuesCall, StretchesCall}

-- ── runs, without a file ──

-- V = 256 read as 0, under which the octet 0 is one level
pub v_256 : (w : ℕ) → RunCheckCall 256 1 (0 ∷ []) w → w ≡ 12
unfolding check_answer
v_256 w p = p.returned

-- 11 told as 10: two levels, and room for one
pub read_room : (w : ℕ) (out : List ℕ) → RunReadCall 10 2 (3 ∷ 12 ∷ []) (9 ∷ []) w out → (w ≡ 11) × (out ≡ 9 ∷ [])
unfolding read_answer
read_room w out p = (p.returned, p.held)

-- a place lost, or told as another's: of `0 131 131 132` under V = 130, for one bin, the fourth octet is at fault
pub check_place_lem : (w : ℕ) → RunCheckCall 130 1 (0 ∷ 131 ∷ 131 ∷ 132 ∷ []) w → w ≡ 8 + 256 * 3
unfolding check_answer gives levels digit_sum passed_from fault_at
check_place_lem w p = p.returned

pub read_place_lem : (w : ℕ) (out : List ℕ) → RunReadCall 130 1 (0 ∷ 131 ∷ 131 ∷ 132 ∷ []) (9 ∷ []) w out → (w ≡ 8 + 256 * 3) × (out ≡ 9 ∷ [])
unfolding read_answer gives levels digit_sum passed_from fault_at
read_place_lem w out p = (p.returned, p.held)

-- 10 told as 11: level 253
pub write_level : (w : ℕ) (out words : List ℕ) → RunWriteCall (253 ∷ []) (9 ∷ []) (7 ∷ 8 ∷ []) w out words → (w ≡ 10) × (out ≡ 9 ∷ []) × (words ≡ 7 ∷ 8 ∷ [])
unfolding write_answer greatest
write_level w out words p = (p.returned, p.held, p.answered)

-- V and the number of octets exchanged
pub write_ten : (w : ℕ) (out words : List ℕ) → RunWriteCall (replicate 10 252) (replicate 5 9) (7 ∷ 8 ∷ []) w out words
    → (w ≡ 0) × (out ≡ 252 ∷ 253 ∷ 253 ∷ 254 ∷ 9 ∷ []) × (words ≡ 252 ∷ 4 ∷ [])
unfolding write_answer greatest written on_from code digits_of digits_up_to
write_ten w out words p = (p.returned, p.held, p.answered)

-- ── files ──

-- a place told short: 8 at 685, one past the data
pub open_place : (w : ℕ) (words : List ℕ) → OpenCall data_short (replicate 9 99) w words → (w ≡ 8 + 256 * 685) × (words ≡ replicate 9 99)
unfolding refuse
open_place w words p =
    let e = W.data_too_few (open_answer data_short) (record { answer = refl }) in
    (p.returned ∙ ap open_return e, p.answered ∙ ap (λ x. open_words x (replicate 9 99)) e)

-- rays for bins; a missing elevation shown as known
pub cut_words_lem : (w : ℕ) (words : List ℤ) → CutCall two_cuts 0 (replicate 10 (pos 99)) w words
    → (w ≡ 0) × (words ≡ pos 2 ∷ pos 1 ∷ negsuc 4 ∷ pos 139959722 ∷ pos 500000 ∷ pos 250 ∷ pos 4500 ∷ pos 2 ∷ pos 0 ∷ pos 99 ∷ [])
cut_words_lem w words p =
    let e = W.southern_cut (cut_answer two_cuts 0) (record { answer = refl }) in
    (p.returned ∙ ap cut_return e, p.answered ∙ ap (λ x. cut_words x (replicate 10 (pos 99))) e)

-- cut and ray exchanged: the file has one cut
pub ray_words : (w : ℕ) (out : List ℕ) → RayLevelsCall document 0 1 (replicate 7 9) w out → (w ≡ 0) × (out ≡ 130 ∷ 1 ∷ 1 ∷ 1 ∷ 0 ∷ 9 ∷ 9 ∷ [])
ray_words w out p =
    let e = W.ray_1 (ray_answer document 0 1 7) _ (record { answer = refl; after = refl }) in
    (p.returned ∙ ap ray_return e.0, p.held ∙ e.1)

-- 11 told as 0
pub room_word : (w : ℕ) (marks : List ℕ) (values : List ℤ) → RayValuesCall document 0 0 (replicate 5 9) (replicate 4 (pos 77)) w marks values
    → (w ≡ 11) × (marks ≡ replicate 5 9) × (values ≡ replicate 4 (pos 77))
unfolding refuse
room_word w marks values p =
    let e = W.values_room (ray_answer document 0 0 4) _ _ (record { answer = refl; marked = refl; valued = refl }) in
    (p.returned ∙ ap ray_return e.0, p.marked ∙ e.1, p.held ∙ e.2)

-- the next bin told for the next ray
pub list_words : (w : ℕ) (words answer : List ℕ) → StretchesCall wind 0 house 0 0 (replicate 18 99) (replicate 3 77) w words answer
    → (w ≡ 0) × (words ≡ 0 ∷ 0 ∷ 1 ∷ 1 ∷ 0 ∷ 1 ∷ 1 ∷ 2 ∷ 0 ∷ 2 ∷ 1 ∷ 1 ∷ 0 ∷ 3 ∷ 1 ∷ 0 ∷ 99 ∷ 99 ∷ []) × (answer ≡ 4 ∷ 1 ∷ 0 ∷ [])
list_words w words answer p =
    let e = W.wind_list (stretch_answer wind 0 house 0 0 18) _ (record { answer = refl; after = refl }) in
    (p.returned ∙ ap stretch_return e.0, p.held ∙ e.1, p.answered ∙ ap (λ x. stretch_words x (replicate 3 77)) e.0)

-- a threshold taken that is the house threshold in its last 32 bits
pub threshold_wide : (w : ℕ) (words answer : List ℕ) → StretchesCall document 0 (pos 4294971296) 0 0 [] (replicate 3 77) w words answer
    → (w ≡ 10) × (words ≡ []) × (answer ≡ replicate 3 77)
unfolding refuse right_t words_after
threshold_wide w words answer p =
    let e = sym (stretch_narrow document 0 (pos 4294971296) 0 0 0) ∙ W.threshold_before_room (stretch_answer document 0 (pos 32768) 0 0 0) _ (record { answer = refl; after = refl }) in
    (p.returned ∙ ap stretch_return e, p.held ∙ ap (λ x. words_after x document 0 (pos 4294971296) 0 0 []) e, p.answered ∙ ap (λ x. stretch_words x (replicate 3 77)) e)

-- ── by a record ──

-- 8 told for 13
pub record_13 : (w : ℕ) (out : List ℕ) → RayLevelsFromCall data_short 0 1 2 3 (replicate 6 9) w out → (w ≡ 13 + 256 * 673) × (out ≡ replicate 6 9)
unfolding refuse levels_from
record_13 w out p =
    let rec : RayRecord = record { offset = 2; before = 3 } in
    let e = I.record_at_section_7 (from_answer data_short 0 1 rec 6) _ (record { answer = refl; after = refl }) in
    (p.returned ∙ ap ray_return e, p.held ∙ ap (λ x. levels_from x data_short 0 rec (replicate 6 9)) e)
