-- What the calls of a file promise C: what they return, and each lent memory after the call. On a refusal nothing lent has changed.
use Rattle.std.specs.Prelude.{ℕ, min, ◌≡◌, List, length, ℤ, Float, Option, Result}
use Rattle.polar.specs.Opening.{open_answer, cut_answer}
use Rattle.polar.specs.Rays.{ray_answer, levels_after, marks_after, values_after, bin_answer}
use Rattle.polar.specs.Stretching.{stretch_answer, words_after}
use Rattle.c_words.specs.Files.{open_return, open_words, cut_return, cut_words, ray_return, bin_return, bin_held, bin_words, stretch_return, stretch_words}
use Rattle.sections.specs.declared.Refusal.{Refusal}

-- the answer r, by the word that is returned and the words of the lent answer
pub record Answered {R W : Type 0} (return_of : R → ℕ) (words_of : R → List W → List W) (r : R) (answer : List W) (word : ℕ) (answer' : List W) : Type 0 where
  pub returned : word ≡ return_of r
  pub answered : answer' ≡ words_of r answer

-- a bin's answer r, whose value goes to a float of its own
pub record BinAnswered (r : Result (Option Float) Refusal) (value : Float) (answer : List ℕ) (word : ℕ) (value' : Float) (answer' : List ℕ) : Type 0 where
  pub returned : word ≡ bin_return r
  pub held : value' ≡ bin_held r value
  pub answered : answer' ≡ bin_words r answer

abbrev pub OpenCall : List ℕ → List ℕ → ℕ → List ℕ → Type 0
OpenCall file = Answered open_return open_words (open_answer file)

abbrev pub CutCall : List ℕ → ℕ → List ℤ → ℕ → List ℤ → Type 0
CutCall file cut = Answered cut_return cut_words (cut_answer file cut)

pub record RayLevelsCall (file : List ℕ) (cut ray : ℕ) (levels : List ℕ) (word : ℕ) (levels' : List ℕ) : Type 0 where
  pub returned : word ≡ ray_return (ray_answer file cut ray (length levels))
  pub held : levels' ≡ levels_after (ray_answer file cut ray (length levels)) file cut ray levels

-- of the two rooms the smaller counts
pub record RayValuesCall (file : List ℕ) (cut ray : ℕ) (marks : List ℕ) (values : List ℤ) (word : ℕ) (marks' : List ℕ) (values' : List ℤ) : Type 0 where
  pub returned : word ≡ ray_return (ray_answer file cut ray (min (length marks) (length values)))
  pub marked : marks' ≡ marks_after (ray_answer file cut ray (min (length marks) (length values))) file cut ray marks
  pub held : values' ≡ values_after (ray_answer file cut ray (min (length marks) (length values))) file cut ray values

abbrev pub BinValueCall : List ℕ → ℕ → ℕ → ℕ → Float → List ℕ → ℕ → Float → List ℕ → Type 0
BinValueCall file cut ray bin = BinAnswered (bin_answer file cut ray bin)

pub record StretchesCall (file : List ℕ) (cut : ℕ) (t : ℤ) (ray bin : ℕ) (words answer : List ℕ) (word : ℕ) (words' answer' : List ℕ) : Type 0 where
  pub returned : word ≡ stretch_return (stretch_answer file cut t ray bin (length words))
  pub held : words' ≡ words_after (stretch_answer file cut t ray bin (length words)) file cut t ray bin words
  pub answered : answer' ≡ stretch_words (stretch_answer file cut t ray bin (length words)) answer
