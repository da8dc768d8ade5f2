-- What C is told of the packing's length: where run write returns 0, no octets that give the row are fewer than its second word says. By the answer's cases.
use Prim.Native.Nat.{ℕ, ◌≤◌, ◌<◌}
use mathlib.Core.Path.{◌≡◌, refl, ap}
use mathlib.Core.List.{List, [], ◌∷◌}
use native.Mathlib.Omega.{arith}
use lib.ListN.{length, get_or}
use lib.Seq.{sets}
use Rattle.runs.specs.Run.{levels}
use Rattle.packing.specs.Write.{packed}
use Rattle.bare.specs.Write.{write_answer, write_out}
use Rattle.bare.specs.declared.WriteRefusal.TheVariants as G
use Rattle.c_words.specs.Runs.{write_return, write_words}
use Rattle.polar_c.specs.Runs.{RunWriteCall}
use Rattle.demands.proofs.Shortest.{no_shorter}
use Rattle.bare.specs.declared.WriteRefusal.{WriteRefusal}
use Rattle.bare.specs.declared.Wrote.{Wrote}
use Rattle.std.specs.Prelude.{Err, Ok, Result}

-- the second of two words that are set
second : (w : List ℕ) (v n : ℕ) → 2 ≤ length w → get_or (sets w 0 (v ∷ n ∷ [])) 1 0 ≡ n
second [] v n long = absurd (omega arith)
second (x ∷ []) v n long = absurd (omega arith)
second (x ∷ y ∷ w) v n long = refl

module _ (row lent lent' answer answer' : List ℕ) (long : 2 ≤ length answer) (u : ℕ) (t : List ℕ) (small : (i : ℕ) → get_or t i 0 < 256) (back : levels u t ≡ row) where
  by_answer : (a : Result Wrote WriteRefusal) → a ≡ write_answer (length lent) row → 0 ≡ write_return a → lent' ≡ write_out a (packed row) lent → get_or (write_words a answer) 1 0 ≤ length t
  by_answer (Ok w) e is held = omega (arith, second answer w.v w.len long, no_shorter {s = row} {d = lent} {out = lent'} {v = w.v} {n = w.len} (record { answered = e; held = held }) u t small back)
  by_answer (Err G.Argument) e is held = absurd (omega arith)
  by_answer (Err G.Room) e is held = absurd (omega arith)

  pub write_no_shorter : RunWriteCall row lent answer 0 lent' answer' → get_or answer' 1 0 ≤ length t
  write_no_shorter p = omega (arith, ap (λ (l : List ℕ). get_or l 1 0) p.answered, by_answer (write_answer (length lent) row) refl p.returned p.held)
