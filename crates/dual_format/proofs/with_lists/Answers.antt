-- The flags are as read, and the lists' length fits whatever they and Nr are.
use native.Mathlib.Omega.{arith}
use Prim.Native.Nat.{◌+◌, ◌*◌}
use Rattle.dual_format.specs.Fields.{with_lists}
use Rattle.dual_format.proofs.Products.{lists_small}
use Rattle.dual_format.proofs.with_lists.Goals as goal

pub overflow_mul-result-2 : goal.overflow_mul-result-2
overflow_mul-result-2 c = record { fits = let s = lists_small (2 * (c.field.result + c.field-2.result)) c.args.rays (omega arith) (omega arith) in omega arith }

pub overflow_add-result : goal.overflow_add-result
overflow_add-result c = record { fits = let s = lists_small (2 * (c.field.result + c.field-2.result)) c.args.rays (omega arith) (omega arith) in omega arith }

pub returns : goal.returns
unfolding with_lists
returns c = λ i. c.args.n + 2 * (c.field.ensures i + c.field-2.ensures i) * c.args.rays
