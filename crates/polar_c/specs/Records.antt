-- What the calls by a record promise C: what they return, and each lent memory after the call. A record is handed in by its two fields.
use Rattle.std.specs.Prelude.{ℕ, min, ◌≡◌, List, length, ℤ}
use Rattle.index.specs.declared.RayRecord.{RayRecord}
use Rattle.records.specs.Records.{build_answer, row_after, from_answer, levels_from, marks_from, values_from}
use Rattle.c_words.specs.Files.{ray_return}

pub record BuildIndexCall (file : List ℕ) (cut : ℕ) (row : List RayRecord) (word : ℕ) (row' : List RayRecord) : Type 0 where
  pub returned : word ≡ ray_return (build_answer file cut (length row))
  pub held : row' ≡ row_after (build_answer file cut (length row)) file cut row

pub record RayLevelsFromCall (file : List ℕ) (cut ray offset before : ℕ) (levels : List ℕ) (word : ℕ) (levels' : List ℕ) : Type 0 where
  pub returned : word ≡ ray_return (from_answer file cut ray (record { offset = offset; before = before }) (length levels))
  pub held : levels' ≡ levels_from (from_answer file cut ray (record { offset = offset; before = before }) (length levels)) file cut (record { offset = offset; before = before }) levels

-- of the two rooms the smaller counts
pub record RayValuesFromCall (file : List ℕ) (cut ray offset before : ℕ) (marks : List ℕ) (values : List ℤ) (word : ℕ) (marks' : List ℕ) (values' : List ℤ) : Type 0 where
  pub returned : word ≡ ray_return (from_answer file cut ray (record { offset = offset; before = before }) (min (length marks) (length values)))
  pub marked : marks' ≡ marks_from (from_answer file cut ray (record { offset = offset; before = before }) (min (length marks) (length values))) file cut (record { offset = offset; before = before }) marks
  pub held : values' ≡ values_from (from_answer file cut ray (record { offset = offset; before = before }) (min (length marks) (length values))) file cut (record { offset = offset; before = before }) values
