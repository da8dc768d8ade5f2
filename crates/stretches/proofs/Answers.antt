-- What an answer and the words after it tell: the count is the number of stretches listed, the next point is the first unlisted start,
-- the entries' words stand at the front, and all else is as it was.
use Prim.Native.Nat.{ℕ, ◌/◌, ◌≤◌}
use mathlib.Core.Path.{◌≡◌, refl, ap, ◌∙◌}
use mathlib.Core.List.{List, [], ◌∷◌, ◌++◌}
use native.Mathlib.Nat.{zero-add}
use native.Mathlib.Omega.{arith}
use lib.ListN.{length, drop, length-take, drop_of_length-le}
use lib.Seq.{sets-eq}
use Rattle.lent.specs.Lent.{front}
use Rattle.stretches.specs.Stretch.{Entry, per_entry, words_of}
use Rattle.stretches.specs.Call.{fitting, answer, answer_of, out_of}
use Rattle.stretches.proofs.Laws.{length_words}

module _ (nr n : ℕ) (es : List Entry) where
  pub count_is : (answer_of nr n es).count ≡ length (fitting n es)
  unfolding answer_of
  count_is = go (drop (n / per_entry) es)
    where
      go : (l : List Entry) → (answer nr (length (fitting n es)) l).count ≡ length (fitting n es)
      go [] = refl
      go (e ∷ l) = refl

  -- all are listed
  pub next_none : length es ≤ n / per_entry → answer_of nr n es ≡ record { count = length (fitting n es); ray = nr; bin = 0 }
  unfolding answer_of
  next_none h = rw (drop_of_length-le es h)

  -- the first unlisted start
  pub next_first : (e : Entry) (l : List Entry) → drop (n / per_entry) es ≡ e ∷ l → answer_of nr n es ≡ record { count = length (fitting n es); ray = e.ray; bin = e.first }
  unfolding answer_of
  next_first e l h = rw h

module _ (out : List ℕ) (es : List Entry) where
  room : length (words_of (fitting (length out) es)) ≤ length out
  room = omega (arith, length_words (fitting (length out) es), length-take (length out / per_entry) es)

  pub words_front : out_of out es ≡ front (words_of (fitting (length out) es)) out
  unfolding out_of
  words_front =
      sets-eq (words_of (fitting (length out) es)) out 0 (omega (arith, room))
      ∙ ap (λ (k : ℕ). words_of (fitting (length out) es) ++ drop k out) (zero-add (length (words_of (fitting (length out) es))))
