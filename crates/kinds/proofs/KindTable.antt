-- The table has every kind, and no number stands for two: each kind is what its number stands for.
use mathlib.Core.Path.{◌≡◌, refl}
use Rattle.kinds.specs.KindTable.{kind_number, kind_by}
use Rattle.kinds.specs.declared.Kind.{Kind}
use Rattle.kinds.specs.declared.Kind.TheVariants.{Missing, Under, Over}
use Rattle.std.specs.Prelude.{Some}

pub by_its_number : (k : Kind) → kind_by (kind_number k) ≡ Some k
unfolding kind_by
by_its_number Missing = refl
by_its_number Under = refl
by_its_number Over = refl
