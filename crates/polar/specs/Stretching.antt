-- FORMAT.md, "Calls", Stretches: what the call answers and leaves in the lent words.
use Rattle.std.specs.Prelude.{ℕ, List, true, ◌&&◌, leb, ℤ, pos, Err, Ok, Result}
use Rattle.sections.specs.Parts.{bins_in, rays_in}
use Rattle.base_format.specs.Verdict.{verdict}
use Rattle.sections.specs.declared.Cut.{Cut}
use Rattle.stretches.specs.Stretch.{per_entry}
use Rattle.stretches.specs.Call.{house_threshold, answer_of, out_of, right_t, right_point}
use Rattle.cuts.specs.Bins.{stretches_in}
use Rattle.calls.specs.Cuts.{on_cut, judged, cut_in}
use Rattle.sections.specs.declared.Refusal.{Refusal}
use Rattle.stretches.specs.declared.Listing.{Listing}

-- 10 for T and the point, then 11 for room under an entry's words
unfoldable pub stretches_on : List ℕ → ℤ → ℕ → ℕ → ℕ → Cut → Result Listing Refusal
stretches_on s t ray bin room c =
    judged Err c (right_t t && right_point (bins_in s c) (rays_in s c) ray bin) (leb per_entry room) true
    (Ok (answer_of (rays_in s c) room (stretches_in s c t ray bin)))

unfoldable pub stretch_answer : List ℕ → ℕ → ℤ → ℕ → ℕ → ℕ → Result Listing Refusal
stretch_answer s i t ray bin room = on_cut Err (stretches_on s t ray bin room) i (verdict s)

-- the words afterwards: those of the entries that fit, or what they were
abbrev pub if_listed : Result Listing Refusal → List ℕ → List ℕ → List ℕ
if_listed (Ok l) new old = new
if_listed (Err r) new old = old

unfoldable pub words_after : Result Listing Refusal → List ℕ → ℕ → ℤ → ℕ → ℕ → List ℕ → List ℕ
words_after a s i t ray bin words = if_listed a (out_of words (stretches_in s (cut_in s i) t ray bin)) words

-- "A house form uses T = 4000"
abbrev pub house : ℤ
house = pos house_threshold
