-- By the test for 0xFFFF.
use Rattle.polar.specs.Opening.{elevation_of}
use mir.ValLaws.{to_z-of_z}
use mir.Syntax.{w32}
use borrow.Author.Tests.{eq-eqb, ne_eqb}
use mathlib.Core.Path.{◌∙◌, ap}
use Rattle.polar.proofs.elevation_of.Goals as goal
use Rattle.std.specs.Prelude.{Some}

pub returns-then-n-eq65535 : goal.returns-then-n-eq65535
unfolding elevation_of
returns-then-n-eq65535 c = rw (eq-eqb _ _ c.if-n-eq65535.true)

pub returns-else-n-eq65535 : goal.returns-else-n-eq65535
unfolding elevation_of
returns-else-n-eq65535 c = rw (ne_eqb _ _ c.if-n-eq65535.false) (ap Some (to_z-of_z w32 c.signed.result (record { sfits = c.signed.type_inv }) ∙ c.signed.ensures))
