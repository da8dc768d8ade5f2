-- FORMAT.md, "Calls", Stretches: what a call lists, what it answers, and what it leaves in the lent words.
use Rattle.std.specs.Prelude.{ℕ, ◌*◌, ◌/◌, Bool, not, ◌&&◌, ◌||◌, List, [], ◌∷◌, ltb, eqb, length, take, drop, ℤ, pos, negsuc}
use Rattle.std.specs.Int.Signed.{lt_z}
use Rattle.std.proofs.lemmas.List.Edits.{sets}
use Rattle.runs.specs.Run.{levels}
use Rattle.kinds.specs.KindTable.{kind_number}
use Rattle.values.specs.Reading.{reading_of, kind_of}
use Rattle.values.specs.declared.Product.{Product}
use Rattle.stretches.specs.Stretch.{Entry, KindOfLevel, per_entry, stretches_of, from_place, words_of}
use Rattle.stretches.specs.declared.Listing.{Listing}

-- the scale of a product and a threshold: "kind 0 missing, 1 value below T, 2 value at or above T"
abbrev pub kind_by_threshold : Product → ℤ → KindOfLevel
kind_by_threshold p t = record { kind = λ l. kind_number (kind_of (reading_of p l) t) }

-- "Lists in order the stretches that start at or past the point": all of them, q being the point's place
unfoldable pub stretches_from : KindOfLevel → ℕ → List ℕ → ℕ → ℕ → ℕ → List Entry
stretches_from sc v xs nb nr q = from_place nb q (stretches_of sc (levels v xs) nb (nr * nb))

-- "as many as fit": the entries that n words have room for
abbrev pub fitting : ℕ → List Entry → List Entry
fitting n es = take (n / per_entry) es

-- "the count and the next point: the first unlisted start at or past the point, or (Nr, 0) if none"
abbrev pub answer : ℕ → ℕ → List Entry → Listing
answer nr count [] = record { count = count; ray = nr; bin = 0 }
answer nr count (e ∷ es) = record { count = count; ray = e.ray; bin = e.first }

-- what is answered where the list is es and the room n words
unfoldable pub answer_of : ℕ → ℕ → List Entry → Listing
answer_of nr n es = answer nr (length (fitting n es)) (drop (n / per_entry) es)

-- the words that held `out`, afterwards
unfoldable pub out_of : List ℕ → List Entry → List ℕ
out_of out es = sets out 0 (words_of (fitting (length out) es))

-- "A house form uses T = 4000", in hundredths
abbrev pub house_threshold : ℕ
house_threshold = 4000

-- "threshold T in hundredths (-32767 to 32767)"
unfoldable pub right_t : ℤ → Bool
right_t t = not (lt_z t (negsuc 32766)) && not (lt_z (pos 32767) t)

-- "A point may be (r, b) inside the grid or (Nr, 0)"
unfoldable pub right_point : ℕ → ℕ → ℕ → ℕ → Bool
right_point nb nr ray bin = (ltb ray nr && ltb bin nb) || (eqb ray nr && eqb bin 0)
