-- The length, then the fields, which are read in the section's own octets.
use mathlib.Core.Path.{◌≡◌, refl, ◌∙◌}
use mathlib.Core.Bool.{true}
use lib.Dec.{eqb}
use Prim.Native.Nat.{◌+◌, ◌≤◌}
use native.Mathlib.Omega.{arith}
use lib.ListN.{length}
use borrow.Author.Tests.{eqb-true}
use Rattle.rules.specs.Rules.{rules1}
use Rattle.rules.proofs.Moved.{part_rules}
use Rattle.sections.proofs.Checking.{failed, held}
use Rattle.sections.proofs.judge1.Goals as goal

pub returns-in_err-check : goal.returns-in_err-check
returns-in_err-check c = let f = failed _ _ _ c.check.ensures _ c.in_err-check.was c.from_residual.ensures.1 in rw (← c.length_at.ensures, f.0) f.1

pub returns : goal.returns
unfolding rules1
returns c =
    let long : eqb c.length_at.result 21 ≡ true = held _ _ _ c.check.ensures c.in_ok-check.was in
    let inside : c.args.at + 21 ≤ length c.args.s.now = omega (arith, eqb-true c.length_at.result 21 long, c.length_at.ensures, c.requires) in
    let part = part_rules c.args.s.now c.args.at (c.args.at + 21) inside 21 (omega arith) rules1 refl in
    rw (← c.length_at.ensures, long, c.check-2.ensures, c.fields1.ensures ∙ part)
