-- Inside the file the sum fits; past it the length reads 0.
use Rattle.rules.specs.Fields.{length_at}
use Rattle.rules.specs.Rules.{field}
use Rattle.octets.proofs.Laws.{be_past}
use native.Mathlib.Omega.{arith}
use Prim.Native.Nat.{ℕ, ◌+◌, ◌-◌}
use mathlib.Core.Path.{◌≡◌, ◌∙◌, ap}
use Rattle.sections.proofs.end_at.Goals as goal

pub returns-then-at-s : goal.returns-then-at-s
unfolding length_at
returns-then-at-s c = ap (λ (n : ℕ). c.args.at + n) c.length_at.ensures

pub returns-else-at-s : goal.returns-else-at-s
unfolding length_at field
returns-else-at-s c = let none : length_at c.args.s.now c.args.at ≡ 0 = be_past c.args.s.now (c.args.at + 1 - 1) 4 (omega arith) in
    omega arith
