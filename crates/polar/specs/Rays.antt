-- FORMAT.md, "Calls": what ray levels, ray values and bin value answer and leave in lent memory. They speak of demand 2's bins: "bin b of ray r
-- is level r x Nb + b" of what the cut's data decodes to.
use Rattle.std.specs.Prelude.{ℕ, List, true, ◌&&◌, ltb, leb, ℤ, Err, None, Ok, Option, Result, Some, ⊤, Float}
use Rattle.fraction.specs.Quotient.{hundredths}
use Rattle.lent.specs.Lent.{front}
use Rattle.values.specs.Reading.{reading_of}
use Rattle.values.specs.Ray.{marks_of, values_of}
use Rattle.values.specs.declared.Reading.{Reading}
use Rattle.values.specs.declared.Reading.TheVariants as R
use Rattle.sections.specs.Parts.{bins_in, rays_in}
use Rattle.base_format.specs.Parts.{product_in, level_in}
use Rattle.base_format.specs.Verdict.{verdict}
use Rattle.sections.specs.declared.Cut.{Cut}
use Rattle.cuts.specs.Bins.{ray_in}
use Rattle.calls.specs.Cuts.{on_cut, judged, cut_in, if_written}
use Rattle.sections.specs.declared.Refusal.{Refusal}

-- 10 for the ray, then 11 for room under Nb
unfoldable pub ray_on : List ℕ → ℕ → ℕ → Cut → Result ⊤ Refusal
ray_on s ray room c = judged Err c (ltb ray (rays_in s c)) (leb (bins_in s c) room) true (Ok tt)

-- both ray calls; of two rooms the smaller counts: "under Nb (either buffer)"
unfoldable pub ray_answer : List ℕ → ℕ → ℕ → ℕ → Result ⊤ Refusal
ray_answer s i ray room = on_cut Err (ray_on s ray room) i (verdict s)

-- "Nb octets at the front of a lent buffer"
unfoldable pub levels_after : Result ⊤ Refusal → List ℕ → ℕ → ℕ → List ℕ → List ℕ
levels_after a s i ray out = if_written a (front (ray_in s (cut_in s i) ray) out) out

-- "Nb marks .. and, in a second buffer of signed 32-bit entries, the value at each measured place; a missing place keeps what it held"
unfoldable pub marks_after : Result ⊤ Refusal → List ℕ → ℕ → ℕ → List ℕ → List ℕ
marks_after a s i ray out = if_written a (marks_of (product_in s (cut_in s i)) (ray_in s (cut_in s i) ray) out) out

unfoldable pub values_after : Result ⊤ Refusal → List ℕ → ℕ → ℕ → List ℤ → List ℤ
values_after a s i ray out = if_written a (values_of (product_in s (cut_in s i)) (ray_in s (cut_in s i) ray) out) out

-- "either missing or a 64-bit float, the whole value taken over exactly and divided once by 100"
unfoldable pub bin_of : Reading → Option Float
bin_of R.Missing = None
bin_of (R.Number z) = Some (hundredths z)

-- 10 for the ray or the bin
unfoldable pub bin_on : List ℕ → ℕ → ℕ → Cut → Result (Option Float) Refusal
bin_on s ray bin c = judged Err c (ltb ray (rays_in s c) && ltb bin (bins_in s c)) true true (Ok (bin_of (reading_of (product_in s c) (level_in s c ray bin))))

unfoldable pub bin_answer : List ℕ → ℕ → ℕ → ℕ → Result (Option Float) Refusal
bin_answer s i ray bin = on_cut Err (bin_on s ray bin) i (verdict s)
