-- What the calls of a dual-polarisation file promise C: as those of the base format's files do.
use Rattle.std.specs.Prelude.{ℕ, List, ℤ, Float}
use Rattle.dual_format.specs.Verdict.{verdict}
use Rattle.calls.specs.Cuts.{cut_at}
use Rattle.dualpol.specs.Answers.{open_answer, cut_answer, bin_answer, RightIn}
use Rattle.c_words.specs.Dual.{dual_open_return, dual_open_words, dual_cut_return, dual_cut_words}
use Rattle.polar_c.specs.Files.{Answered, BinAnswered}

abbrev pub DualOpenCall : List ℕ → List ℕ → ℕ → List ℕ → Type 0
DualOpenCall file = Answered dual_open_return dual_open_words (open_answer file)

abbrev pub DualCutCall : List ℕ → ℕ → List ℤ → ℕ → List ℤ → Type 0
DualCutCall file cut = Answered dual_cut_return dual_cut_words (cut_answer file cut)

-- the answer, and that a value is within |Y| / 2^51 of the exact Y, and zero where Y is 0
pub record DualBinCall (file : List ℕ) (cut ray bin : ℕ) (value : Float) (answer : List ℕ) (word : ℕ) (value' : Float) (answer' : List ℕ) : Type 0 where
  pub outcome : BinAnswered (bin_answer file cut ray bin) value answer word value' answer'
  pub near : RightIn file ray bin (cut_at cut (verdict file)) (bin_answer file cut ray bin)
