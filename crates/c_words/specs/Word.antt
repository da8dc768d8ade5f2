-- What a call returns to C: 0 where nothing is refused, else the refusal in one word, its number + 256 x its place.
use Rattle.std.specs.Prelude.{ℕ, ◌+◌, ◌*◌, ◌/◌, ◌%◌, ◌<◌, cond, leb}
use Rattle.sections.specs.Refusal.{number_of}
use Rattle.sections.specs.declared.Refusal.{Refusal}

abbrev pub refusal_word : ℕ → ℕ → ℕ
refusal_word number place = number + 256 * place

-- a place among lent octets that are no file: over 56 bits, which no memory has, it is told as the greatest that they hold
abbrev pub place_told : ℕ → ℕ
place_told place = cond (leb place 0xFFFFFFFFFFFFFF) place 0xFFFFFFFFFFFFFF

abbrev pub word_of : Refusal → ℕ
word_of r = refusal_word (number_of r.why) r.place

-- what C reads back from it: POLAR_NUMBER, POLAR_PLACE
abbrev pub number_in : ℕ → ℕ
number_in w = w % 256

abbrev pub place_in : ℕ → ℕ
place_in w = w / 256

-- a word has 64 bits
abbrev pub InWord : ℕ → Type 0
InWord w = w < 18446744073709551616
