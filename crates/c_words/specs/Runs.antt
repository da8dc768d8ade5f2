-- How the bare run calls answer by C's rules: what they return, and the words of run write's answer, set only where nothing is refused.
use Rattle.std.specs.Prelude.{ℕ, List, [], ◌∷◌, Err, Ok, Result, ⊤}
use Rattle.std.proofs.lemmas.List.Edits.{sets}
use Rattle.bare.specs.Read.{read_number, read_place, check_number, check_place}
use Rattle.bare.specs.Write.{write_number, write_place}
use Rattle.c_words.specs.Word.{refusal_word, place_told}
use Rattle.bare.specs.declared.CheckRefusal.{CheckRefusal}
use Rattle.bare.specs.declared.ReadRefusal.{ReadRefusal}
use Rattle.bare.specs.declared.WriteRefusal.{WriteRefusal}
use Rattle.bare.specs.declared.Wrote.{Wrote}

abbrev pub check_return : Result ⊤ CheckRefusal → ℕ
check_return (Ok tt) = 0
check_return (Err why) = refusal_word (check_number why) (place_told (check_place why))

abbrev pub read_return : Result ⊤ ReadRefusal → ℕ
read_return (Ok tt) = 0
read_return (Err why) = refusal_word (read_number why) (place_told (read_place why))

abbrev pub write_return : Result Wrote WriteRefusal → ℕ
write_return (Ok wrote) = 0
write_return (Err why) = refusal_word (write_number why) (write_place why)

-- V, number of octets
abbrev pub write_words : Result Wrote WriteRefusal → List ℕ → List ℕ
write_words (Ok wrote) w = sets w 0 (wrote.v ∷ wrote.len ∷ [])
write_words (Err why) w = w
