-- FORMAT.md, "Rays by a record": what index building and the ray calls by a record answer and leave in lent memory.
use Rattle.std.specs.Prelude.{ℕ, List, true, ltb, leb, ℤ, Err, Ok, Result, ⊤}
use Rattle.lent.specs.Lent.{front}
use Rattle.index.specs.declared.RayRecord.{RayRecord}
use Rattle.values.specs.Ray.{marks_of, values_of}
use Rattle.sections.specs.Parts.{bins_in, rays_in}
use Rattle.sections.specs.declared.Cut.{Cut}
use Rattle.base_format.specs.Parts.{product_in}
use Rattle.base_format.specs.Verdict.{verdict, any_data_verdict}
use Rattle.calls.specs.Cuts.{on_cut, judged, cut_in, cut_any_data, if_written}
use Rattle.cuts.specs.Records.{records_in, usable_in, ray_from}
use Rattle.sections.specs.declared.Refusal.{Refusal}

-- "Building with fewer records than rays: 11"
unfoldable pub build_on : List ℕ → ℕ → Cut → Result ⊤ Refusal
build_on s room c = judged Err c true (leb (rays_in s c) room) true (Ok tt)

unfoldable pub build_answer : List ℕ → ℕ → ℕ → Result ⊤ Refusal
build_answer s i room = on_cut Err (build_on s room) i (verdict s)

-- the lent row afterwards: "one for each ray" at its front, past them as it was
unfoldable pub row_after : Result ⊤ Refusal → List ℕ → ℕ → List RayRecord → List RayRecord
row_after a s i row = if_written a (front (records_in s (cut_in s i)) row) row

-- by a record: 10 for the ray, then 11, then 13, "place: section 7's start"
unfoldable pub from_on : List ℕ → ℕ → RayRecord → ℕ → Cut → Result ⊤ Refusal
from_on s ray rec room c = judged Err c (ltb ray (rays_in s c)) (leb (bins_in s c) room) (usable_in s c rec) (Ok tt)

-- both ray calls by a record: "every file check but 8", and then as `ray_answer`
unfoldable pub from_answer : List ℕ → ℕ → ℕ → RayRecord → ℕ → Result ⊤ Refusal
from_answer s i ray rec room = on_cut Err (from_on s ray rec room) i (any_data_verdict s)

-- "what decoding from there gives", as `levels_after`, `marks_after` and `values_after` leave a ray's bins
unfoldable pub levels_from : Result ⊤ Refusal → List ℕ → ℕ → RayRecord → List ℕ → List ℕ
levels_from a s i rec out = if_written a (front (ray_from s (cut_any_data s i) rec) out) out

unfoldable pub marks_from : Result ⊤ Refusal → List ℕ → ℕ → RayRecord → List ℕ → List ℕ
marks_from a s i rec out = if_written a (marks_of (product_in s (cut_any_data s i)) (ray_from s (cut_any_data s i) rec) out) out

unfoldable pub values_from : Result ⊤ Refusal → List ℕ → ℕ → RayRecord → List ℤ → List ℤ
values_from a s i rec out = if_written a (values_of (product_in s (cut_any_data s i)) (ray_from s (cut_any_data s i) rec) out) out
