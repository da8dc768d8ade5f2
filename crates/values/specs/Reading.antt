-- What a level is, in one place: a level's mark, the value it leaves in a lent buffer and its kind go by cases on it.
use Rattle.std.specs.Prelude.{ℕ, cond, eqb, ℤ}
use Rattle.std.specs.Int.Signed.{lt_z}
use Rattle.kinds.specs.declared.Kind.{Kind}
use Rattle.kinds.specs.declared.Kind.TheVariants as K
use Rattle.values.specs.Published.{published}
use Rattle.values.specs.declared.Product.{Product}
use Rattle.values.specs.declared.Reading.{Reading}
use Rattle.values.specs.declared.Reading.TheVariants.{Missing, Number}

-- level 0: missing, no value; any other: its published value
unfoldable pub reading_of : Product → ℕ → Reading
unfolding published
reading_of p l = cond (eqb l 0) Missing (Number (published p l))

-- the mark: 0 missing, 1 measured (FORMAT.md, "Calls", Ray values)
unfoldable pub mark_of : Reading → ℕ
mark_of Missing = 0
mark_of (Number z) = 1

-- what a place that held x holds afterwards: a missing place keeps what it held
unfoldable pub held_of : Reading → ℤ → ℤ
held_of Missing x = x
held_of (Number z) x = z

-- the kind against the threshold T: missing, under it, or at it and over (FORMAT.md, "Calls", Stretches)
unfoldable pub kind_of : Reading → ℤ → Kind
kind_of Missing t = K.Missing
kind_of (Number z) t = cond (lt_z z t) K.Under K.Over
