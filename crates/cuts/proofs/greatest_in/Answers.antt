-- The field of section 5, which a good cut holds to 252.
use Rattle.cuts.proofs.Places.{greatest_small}
use native.Mathlib.Omega.{arith}
use Rattle.base_format.specs.Parts.{greatest_in}
use Rattle.base_format.specs.Fields.{greatest_at}
use Rattle.cuts.proofs.greatest_in.Goals as goal

pub overflow_cast-result : goal.overflow_cast-result
unfolding greatest_in greatest_at
overflow_cast-result c = let small = greatest_small _ _ c.requires in record { fits = omega (arith, c.greatest_at.ensures, small) }

pub returns : goal.returns
unfolding greatest_in greatest_at
returns c = c.greatest_at.ensures
