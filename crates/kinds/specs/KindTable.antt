-- The kinds of a stretch, in one table: FORMAT.md, "Calls", Stretches ("Kind 0 missing, 1 value below T, 2 value at or above T") and "The lister".
use Rattle.std.specs.Prelude.{ℕ, cond, List, [], ◌∷◌, eqb, None, Option, Some}
use Prim.Native.String.{String}
use Rattle.lent.specs.Ascii.{ascii}
use Rattle.kinds.specs.declared.Kind.{Kind}
use Rattle.kinds.specs.declared.Kind.TheVariants.{Missing, Under, Over}

pub record Row : Type 0 where
  pub number : ℕ
  pub word : String

abbrev pub row : Kind → Row
row Missing = record { number = 0; word = "missing" }
row Under = record { number = 1; word = "under" }
row Over = record { number = 2; word = "over" }

-- every kind: proofs/KindTable.antt has that none is left out and no number stands for two
abbrev pub all_kinds : List Kind
all_kinds = Missing ∷ Under ∷ Over ∷ []

abbrev pub kind_number : Kind → ℕ
kind_number k = (row k).number

abbrev pub kind_word : Kind → List ℕ
kind_word k = ascii (row k).word

-- what a number stands for among some kinds, and among all
abbrev pub kind_among : ℕ → List Kind → Option Kind
kind_among n [] = None
kind_among n (k ∷ ks) = cond (eqb n (kind_number k)) (Some k) (kind_among n ks)

unfoldable pub kind_by : ℕ → Option Kind
kind_by n = kind_among n all_kinds

-- how many octets a word may take
abbrev pub word_room : ℕ
word_room = 18
