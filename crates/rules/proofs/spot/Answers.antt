-- A place that reads as octet k does: inside the file it is that octet, past the file every octet reads 0.
use mathlib.Core.Path.{sym, ap, ◌∙◌}
use Prim.Native.Nat.{ℕ, ◌+◌, ◌-◌}
use lib.ListN.{length}
use Rattle.octets.specs.Octets.{be}
use native.Mathlib.Omega.{arith}
use Rattle.octets.proofs.Laws.{be_past}
use Rattle.rules.specs.Rules.{field}
use Rattle.rules.proofs.spot.Goals as goal

pub returns-then-s-at : goal.returns-then-s-at
unfolding field
returns-then-s-at c w = be_past c.args.s.now (length c.args.s.now) w (omega arith) ∙ sym (be_past c.args.s.now (c.args.at + c.args.k - 1) w (omega arith))

pub returns : goal.returns
unfolding field
returns c w = ap (λ (p : ℕ). be c.args.s.now p w) (omega (arith, c.saturating_sub.ensures, c.from.ensures))
