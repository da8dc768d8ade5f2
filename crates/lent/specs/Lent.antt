-- What lent memory holds after a call has written to it. Past what is written it is as it was (FORMAT.md, "Calls").
use Rattle.std.specs.Prelude.{ℕ, ◌+◌, ◌-◌, List, [], ◌∷◌, ◌++◌, length, take, drop}

-- p at the front of d
abbrev pub front : {A : Type 0} → List A → List A → List A
front p d = p ++ drop (length p) d

-- p in d from a place on
unfoldable pub placed : {A : Type 0} → List A → ℕ → List A → List A
placed d at p = take at d ++ (p ++ drop (at + length p) d)

-- the elements of l from a up to b
abbrev pub between : {A : Type 0} → ℕ → ℕ → List A → List A
between a b l = take (b - a) (drop a l)

-- what a level makes of the entry at its place, at each place that has a level; entries past the levels are unchanged
unfoldable pub updated : {A : Type 0} → (ℕ → A → A) → List ℕ → List A → List A
updated f [] bs = bs
updated f (l ∷ ls) [] = []
updated f (l ∷ ls) (b ∷ bs) = f l b ∷ updated f ls bs
