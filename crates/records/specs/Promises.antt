-- What index building and the ray calls by a record promise: for a lent file s, arguments, lent memory before, the answer and lent memory after.
use Rattle.std.specs.Prelude.{ℕ, min, ◌≡◌, List, length, ℤ, Result, ⊤}
use Rattle.index.specs.declared.RayRecord.{RayRecord}
use Rattle.records.specs.Records.{build_answer, row_after, from_answer, levels_from, marks_from, values_from}
use Rattle.sections.specs.declared.Refusal.{Refusal}

pub record BuildPromise (s : List ℕ) (i : ℕ) (row : List RayRecord) (r : Result ⊤ Refusal) (row' : List RayRecord) : Type 0 where
  pub answer : r ≡ build_answer s i (length row)
  pub after : row' ≡ row_after r s i row

pub record LevelsFromPromise (s : List ℕ) (i ray : ℕ) (rec : RayRecord) (out : List ℕ) (r : Result ⊤ Refusal) (out' : List ℕ) : Type 0 where
  pub answer : r ≡ from_answer s i ray rec (length out)
  pub after : out' ≡ levels_from r s i rec out

pub record ValuesFromPromise (s : List ℕ) (i ray : ℕ) (rec : RayRecord) (marks : List ℕ) (values : List ℤ) (r : Result ⊤ Refusal) (marks' : List ℕ) (values' : List ℤ) : Type 0 where
  pub answer : r ≡ from_answer s i ray rec (min (length marks) (length values))
  pub marked : marks' ≡ marks_from r s i rec marks
  pub valued : values' ≡ values_from r s i rec values
