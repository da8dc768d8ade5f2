-- What the bare run calls promise C: what they return, and each lent memory after the call. On a refusal nothing lent has changed.
use Rattle.std.specs.Prelude.{ℕ, ◌≡◌, List, length}
use Rattle.runs.specs.Run.{levels}
use Rattle.bare.specs.Read.{read_answer, read_out, check_answer}
use Rattle.packing.specs.Write.{packed}
use Rattle.bare.specs.Write.{write_answer, write_out}
use Rattle.c_words.specs.Runs.{check_return, read_return, write_return, write_words}

pub record RunCheckCall (v n : ℕ) (octets : List ℕ) (word : ℕ) : Type 0 where
  pub returned : word ≡ check_return (check_answer v n octets)

pub record RunReadCall (v n : ℕ) (octets lent : List ℕ) (word : ℕ) (lent' : List ℕ) : Type 0 where
  pub returned : word ≡ read_return (read_answer v n (length lent) octets)
  pub held : lent' ≡ read_out (read_answer v n (length lent) octets) (levels v octets) lent

pub record RunWriteCall (row lent answer : List ℕ) (word : ℕ) (lent' answer' : List ℕ) : Type 0 where
  pub returned : word ≡ write_return (write_answer (length lent) row)
  pub held : lent' ≡ write_out (write_answer (length lent) row) (packed row) lent
  pub answered : answer' ≡ write_words (write_answer (length lent) row) answer
