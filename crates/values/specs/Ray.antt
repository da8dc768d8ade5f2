-- A ray's levels as marks and values in two lent buffers (FORMAT.md, "Calls", Ray values).
use Rattle.std.specs.Prelude.{ℕ, List, ℤ}
use Rattle.lent.specs.Lent.{updated}
use Rattle.values.specs.Reading.{reading_of, mark_of, held_of}
use Rattle.values.specs.declared.Product.{Product}

-- at a place whose level is l: its mark, and the value that stands there afterwards
abbrev pub mark_at : Product → ℕ → ℕ → ℕ
mark_at p l b = mark_of (reading_of p l)

abbrev pub held_at : Product → ℕ → ℤ → ℤ
held_at p l x = held_of (reading_of p l) x

-- the marks and the values of a ray's levels, in the lent buffers
unfoldable pub marks_of : Product → List ℕ → List ℕ → List ℕ
unfolding updated
marks_of p ls bs = updated (mark_at p) ls bs

unfoldable pub values_of : Product → List ℕ → List ℤ → List ℤ
unfolding updated
values_of p ls xs = updated (held_at p) ls xs
