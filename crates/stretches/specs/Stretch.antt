-- The list of stretches, as one reads it off the bins of all rays laid end to end: bin b of ray r is place r x Nb + b of the levels.
use Rattle.std.specs.Prelude.{ℕ, zero, suc, ◌+◌, ◌-◌, ◌*◌, ◌/◌, ◌%◌, Bool, cond, not, ◌||◌, List, [], ◌∷◌, ◌++◌, get_or, leb, eqb}

-- "four to an entry: ray, first bin, length, kind"
pub record Entry : Type 0 where
  pub ray : ℕ
  pub first : ℕ
  pub len : ℕ
  pub kind : ℕ

-- how many words an entry takes
abbrev pub per_entry : ℕ
per_entry = 4

-- the words of an entry, in order, and of a list of entries
abbrev pub words : Entry → List ℕ
words e = e.ray ∷ e.first ∷ e.len ∷ e.kind ∷ []

unfoldable pub words_of : List Entry → List ℕ
words_of [] = []
words_of (e ∷ es) = words e ++ words_of es

-- what a stretch is by: some function of the level. All below depends on the kinds only so
pub record KindOfLevel : Type 0 where
  pub kind : ℕ → ℕ

-- the kind at a place
abbrev pub kind_at : KindOfLevel → List ℕ → ℕ → ℕ
kind_at sc ls p = sc.kind (get_or ls p 0)

-- the entry for the n bins from place p on
abbrev pub entry_at : KindOfLevel → List ℕ → ℕ → ℕ → ℕ → Entry
entry_at sc ls nb p n = record { ray = p / nb; first = p % nb; len = n; kind = kind_at sc ls p }

-- a bin at place p of kind k, after one of kind j, begins a stretch: it is its ray's first, or the kinds differ
unfoldable pub begins_after : ℕ → ℕ → ℕ → ℕ → Bool
begins_after nb p k j = eqb (p % nb) 0 || not (eqb k j)

-- place p begins a stretch, where K gives the kinds
abbrev pub starts : (ℕ → ℕ) → ℕ → ℕ → Bool
starts K nb p = begins_after nb p (K p) (K (p - 1))

-- how many of the m places from p on do not begin one, up to the first that does
unfoldable pub unbroken : (ℕ → Bool) → ℕ → ℕ → ℕ
unbroken S p zero = 0
unbroken S p (suc m) = cond (S p) 0 (suc (unbroken S (suc p) m))

-- the entries E of the places, of the m from p on, at which S says that one begins: each goes on up to the next
unfoldable pub list_from : (ℕ → Bool) → (ℕ → ℕ → Entry) → ℕ → ℕ → List Entry
list_from S E p zero = []
list_from S E p (suc m) = cond (S p) (E p (suc (unbroken S (suc p) m)) ∷ list_from S E (suc p) m) (list_from S E (suc p) m)

-- the stretches of m places
abbrev pub stretches_of : KindOfLevel → List ℕ → ℕ → ℕ → List Entry
stretches_of sc ls nb m = list_from (starts (kind_at sc ls) nb) (entry_at sc ls nb) 0 m

-- those that begin at place q or past it
unfoldable pub from_place : ℕ → ℕ → List Entry → List Entry
from_place nb q [] = []
from_place nb q (e ∷ es) = cond (leb q (e.ray * nb + e.first)) (e ∷ from_place nb q es) (from_place nb q es)
