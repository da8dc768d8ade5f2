-- FORMAT.md, "Rays by a record": "the offset in the data of the level octet whose run holds the ray's first bin, and how many bins of that run came before".
use Rattle.std.specs.Prelude.{ℕ, zero, suc, ◌+◌, ◌-◌, List, [], ◌∷◌, Bool, false, cond, length, take, drop, get_or, leb, ltb}
use Rattle.runs.specs.Run.{levels, digit_sum, run_len}
use Rattle.index.specs.declared.RayRecord.{RayRecord}

-- "what decoding from there gives": nb levels, past the bins that came before
abbrev pub from_record : ℕ → ℕ → List ℕ → RayRecord → List ℕ
from_record v nb s rec = take nb (drop rec.before (levels v (drop rec.offset s)))

-- refusal 13 is "for a record whose offset lies outside the data, whose octet there exceeds V, whose earlier bins reach the run's length,
-- or whose data ends before Nb bins": any other record is usable
unfoldable pub usable : ℕ → ℕ → List ℕ → RayRecord → Bool
usable v nb s rec =
    cond (ltb rec.offset (length s))
    (cond (leb (get_or s rec.offset 0) v)
    (cond (ltb rec.before (run_len v s rec.offset))
    (leb (rec.before + nb) (length (levels v (drop rec.offset s))))
    false) false) false

-- the record of bin a of what octets give, the first of them at place `at`: a level octet's run holds it, or it is to be looked for past that run
unfoldable pub record_of : ℕ → List ℕ → ℕ → ℕ → RayRecord
record_of v [] at a = record { offset = at; before = a }
record_of v (o ∷ s) at a =
    cond (leb o v)
    (cond (ltb a (1 + digit_sum v 0 s)) (record { offset = at; before = a }) (record_of v s (at + 1) (a - (1 + digit_sum v 0 s))))
    (record_of v s (at + 1) a)

-- the records of n rays of nb bins, the first of which begins at bin a
unfoldable pub records : ℕ → ℕ → ℕ → List ℕ → ℕ → List RayRecord
records zero nb v s a = []
records (suc n) nb v s a = record_of v s 0 a ∷ records n nb v s (a + nb)
