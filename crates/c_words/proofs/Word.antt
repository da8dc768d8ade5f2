-- A refusal is read back whole from its word, and its word is never 0; a file's has never the number 12.
use Prim.Native.Nat.{ℕ, ◌≤◌, ◌<◌}
use mathlib.Core.Path.{◌≡◌, sym, ◌∙◌}
use native.Mathlib.Omega.{arith}
use borrow.Author.Tests.{le-leb, lt-leb}
use Rattle.octets.proofs.Orders.{by_order}
use Rattle.sections.specs.Refusal.{number_of}
use Rattle.sections.specs.declared.Refusal.{Refusal}
use Rattle.sections.proofs.Numbers.{numbered}
use Rattle.c_words.specs.Word.{refusal_word, word_of, place_told, number_in, place_in, InWord}

pub number_back : (n place : ℕ) → n < 256 → number_in (refusal_word n place) ≡ n
number_back n place h = omega arith

pub place_back : (n place : ℕ) → n < 256 → place_in (refusal_word n place) ≡ place
place_back n place h = omega arith

-- of a refusal: its number and its place, and that it is not taken for an answer
pub number_read : (r : Refusal) → number_in (word_of r) ≡ number_of r.why
number_read r = let k = numbered r.why in number_back (number_of r.why) r.place (omega arith)

pub word_not_twelve : (r : Refusal) → number_in (word_of r) ≡ 12 → ⊥
word_not_twelve r e = (numbered r.why).not_twelve (sym (number_read r) ∙ e)

pub place_read : (r : Refusal) → place_in (word_of r) ≡ r.place
place_read r = let k = numbered r.why in place_back (number_of r.why) r.place (omega arith)

pub not_answered : (r : Refusal) → 0 < word_of r
not_answered r = let k = numbered r.why in omega arith

-- a place under 2^55 goes out whole
pub in_word : (r : Refusal) → r.place < 36028797018963968 → InWord (word_of r)
in_word r h = let k = numbered r.why in omega arith

-- a place among lent octets that are no file goes out whole where 56 bits hold it, and its word fits whatever it is
pub place_told_lem : (place : ℕ) → place ≤ 0xFFFFFFFFFFFFFF → place_told place ≡ place
place_told_lem place h = rw (le-leb place 0xFFFFFFFFFFFFFF h)

pub told_in_word : (n place : ℕ) → n < 256 → InWord (refusal_word n (place_told place))
told_in_word n place h =
    by_order place 0xFFFFFFFFFFFFFF
    (λ low. rw (le-leb place 0xFFFFFFFFFFFFFF low) (omega arith))
    (λ high. rw (lt-leb place 0xFFFFFFFFFFFFFF high) (omega arith))
