-- What each call promises: for a lent file s, arguments, lent memory before, the answer and lent memory after.
-- (The run calls have theirs in crate `bare`: ReadPromise, CheckPromise, WritePromise.)
use Rattle.std.specs.Prelude.{ℕ, min, ◌≡◌, List, length, ℤ, Option, Result, ⊤, Float}
use Rattle.polar.specs.Opening.{open_answer, cut_answer}
use Rattle.polar.specs.Rays.{ray_answer, levels_after, marks_after, values_after, bin_answer}
use Rattle.polar.specs.Stretching.{stretch_answer, words_after}
use Rattle.polar.specs.declared.CutInfo.{CutInfo}
use Rattle.polar.specs.declared.Summary.{Summary}
use Rattle.sections.specs.declared.Refusal.{Refusal}
use Rattle.stretches.specs.declared.Listing.{Listing}

pub record OpenPromise (s : List ℕ) (r : Result Summary Refusal) : Type 0 where
  pub answer : r ≡ open_answer s

pub record CutPromise (s : List ℕ) (i : ℕ) (r : Result CutInfo Refusal) : Type 0 where
  pub answer : r ≡ cut_answer s i

pub record LevelsPromise (s : List ℕ) (i ray : ℕ) (out : List ℕ) (r : Result ⊤ Refusal) (out' : List ℕ) : Type 0 where
  pub answer : r ≡ ray_answer s i ray (length out)
  pub after : out' ≡ levels_after r s i ray out

pub record ValuesPromise (s : List ℕ) (i ray : ℕ) (marks : List ℕ) (values : List ℤ) (r : Result ⊤ Refusal) (marks' : List ℕ) (values' : List ℤ) : Type 0 where
  pub answer : r ≡ ray_answer s i ray (min (length marks) (length values))
  pub marked : marks' ≡ marks_after r s i ray marks
  pub valued : values' ≡ values_after r s i ray values

pub record BinPromise (s : List ℕ) (i ray bin : ℕ) (r : Result (Option Float) Refusal) : Type 0 where
  pub answer : r ≡ bin_answer s i ray bin

pub record StretchesPromise (s : List ℕ) (i : ℕ) (t : ℤ) (ray bin : ℕ) (words : List ℕ) (r : Result Listing Refusal) (words' : List ℕ) : Type 0 where
  pub answer : r ≡ stretch_answer s i t ray bin (length words)
  pub after : words' ≡ words_after r s i t ray bin words
