-- Nb x Nr cells of the width, in octets.
use native.Mathlib.Omega.{arith}
use Prim.Native.Nat.{◌+◌, ◌*◌, ◌/◌}
use Rattle.dual_format.specs.Fields.{length7}
use Rattle.dual_format.proofs.Products.{cells_small}
use Rattle.dual_format.proofs.length7_at.Goals as goal

pub overflow_mul-result : goal.overflow_mul-result
overflow_mul-result c = record { fits = let s = cells_small c.points_at.result c.width_at.result (omega (arith, c.points_at.ensures, c.requires)) (omega arith) in omega arith }

pub overflow_add-result : goal.overflow_add-result
overflow_add-result c = record { fits = let s = cells_small c.points_at.result c.width_at.result (omega (arith, c.points_at.ensures, c.requires)) (omega arith) in omega arith }

pub returns : goal.returns
unfolding length7
returns c = λ i. 5 + c.points_at.ensures i * c.width_at.ensures i / 8
