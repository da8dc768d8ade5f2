-- FORMAT.md, "Calls" and "Refusals": what run write answers, and what the lent octets then hold.
use Rattle.std.specs.Prelude.{ℕ, ◌≡◌, List, cond, length, ltb, Err, Ok, Result}
use Rattle.lent.specs.Lent.{front}
use Rattle.packing.specs.Write.{greatest, packed}
use Rattle.bare.specs.declared.WriteRefusal.{WriteRefusal}
use Rattle.bare.specs.declared.WriteRefusal.TheVariants.{Argument, Room}
use Rattle.bare.specs.declared.Wrote.{Wrote}

-- "octets at the front of a lent buffer; answers V and their number"; "Run write: 10, 11"
unfoldable pub write_answer : ℕ → List ℕ → Result Wrote WriteRefusal
write_answer room s =
    cond (ltb 2097152 (length s)) (Err Argument)
    (cond (ltb 252 (greatest s)) (Err Argument)
    (cond (ltb room (length (packed s))) (Err Room)
    (Ok (record { v = greatest s; len = length (packed s) }))))

-- the lent octets d after it, p what it writes: a refusal "changes no lent memory"
abbrev pub write_out : Result Wrote WriteRefusal → List ℕ → List ℕ → List ℕ
write_out (Ok wrote) p d = front p d
write_out (Err why) p d = d

-- the promise of run write, s the levels and d the lent octets before it: the answer, and the lent octets after it
pub record WritePromise (s d : List ℕ) (answer : Result Wrote WriteRefusal) (out : List ℕ) : Type 0 where
  pub answered : answer ≡ write_answer (length d) s
  pub held : out ≡ write_out answer (packed s) d

-- "A refusal returns its number and a place", which is 0 for the bare run calls
abbrev pub write_number : WriteRefusal → ℕ
write_number Argument = 10
write_number Room = 11

abbrev pub write_place : WriteRefusal → ℕ
write_place Argument = 0
write_place Room = 0
