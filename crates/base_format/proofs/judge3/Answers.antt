-- The checks in order; past the length the fields are read in the section's own octets.
use Rattle.std.proofs.Common.{rules}
use mathlib.Core.Path.{◌≡◌, refl, ◌∙◌}
use Prim.Native.Nat.{◌+◌, ◌≤◌}
use native.Mathlib.Omega.{arith}
use lib.ListN.{length}
use borrow.Author.Tests.{eqb-true}
use Rattle.rules.specs.Rules.{field, meets_all}
use Rattle.rules.specs.Fields.{points_at}
use Rattle.rules.proofs.Moved.{part_field, part_points, part_rules}
use Rattle.sections.proofs.Checking.{held}
use Rattle.base_format.specs.Rules.{rules3}
use Rattle.base_format.proofs.judge3.Goals as goal

pub returns-in_err-check-2 : goal.returns-in_err-check-2
unfolding rules3
returns-in_err-check-2 c =
    let long = eqb-true c.length_at.result 41 (held _ _ _ c.check.ensures c.in_ok-check.was) in
    let inside : c.args.at + 41 ≤ length c.args.s.now = omega (arith, long, c.length_at.ensures, c.requires) in
    let fields : c.fields3.result ≡ meets_all c.args.s.now c.args.at rules3 = c.fields3.ensures ∙ part_rules c.args.s.now c.args.at (c.args.at + 41) inside 41 (omega arith) rules3 refl in
    search rules

pub returns : goal.returns
unfolding rules3
returns c =
    let long = eqb-true c.length_at.result 41 (held _ _ _ c.check.ensures c.in_ok-check.was) in
    let inside : c.args.at + 41 ≤ length c.args.s.now = omega (arith, long, c.length_at.ensures, c.requires) in
    let fields : c.fields3.result ≡ meets_all c.args.s.now c.args.at rules3 = c.fields3.ensures ∙ part_rules c.args.s.now c.args.at (c.args.at + 41) inside 41 (omega arith) rules3 refl in
    let said : c.from-said.result ≡ field c.args.s.now c.args.at 7 4 = c.from-said.ensures ∙ c.field.ensures ∙ part_field c.args.s.now c.args.at (c.args.at + 41) inside 7 4 (omega arith) (omega arith) in
    let due : c.points_at.result ≡ points_at c.args.s.now c.args.at = c.points_at.ensures ∙ part_points c.args.s.now c.args.at (c.args.at + 41) inside (omega arith) in
    search rules
