-- The difference fits, so the two comparisons say the same.
use Rattle.rules.proofs.Chains.{leb_same}
use borrow.Author.Tests.{lt-leb}
use native.Mathlib.Omega.{arith}
use Prim.Native.Nat.{◌+◌, ◌-◌}
use mathlib.Core.Path.{sym}
use Rattle.sections.proofs.ends_by.Goals as goal

pub returns-then-end-at : goal.returns-then-end-at
returns-then-end-at c = sym (lt-leb (c.args.at + c.args.n) c.args.end (omega arith))

pub returns-else-end-at : goal.returns-else-end-at
returns-else-end-at c = leb_same c.args.n (c.args.end - c.args.at) (c.args.at + c.args.n) c.args.end (λ h. omega arith) (λ h. omega arith)
