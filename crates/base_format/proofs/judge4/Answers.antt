-- The length, then the fields, which are read in the section's own octets.
use mathlib.Core.Path.{◌≡◌, refl, ◌∙◌}
use Prim.Native.Nat.{◌+◌, ◌*◌, ◌≤◌}
use native.Mathlib.Omega.{arith}
use lib.ListN.{length}
use borrow.Author.Tests.{eqb-true}
use Rattle.rules.specs.Rules.{meets_all}
use Rattle.rules.proofs.Moved.{part_rules}
use Rattle.sections.proofs.Checking.{held}
use Rattle.base_format.specs.Rules.{rules4}
use Rattle.base_format.proofs.judge4.Goals as goal

pub returns : goal.returns
unfolding rules4
returns c =
    let due = eqb-true c.from-len.result (60 + 4 * c.from.result) (held _ _ _ c.check.ensures c.in_ok-check.was) in
    let inside : c.args.at + 60 ≤ length c.args.s.now = omega (arith, due, c.from-len.ensures, c.length_at.ensures, c.requires) in
    let given = rules4 c.parameter_at-parameter.result c.site_at-site.result in
    let fields : c.fields4-fields.result ≡ meets_all c.args.s.now c.args.at given = c.fields4-fields.ensures ∙ part_rules c.args.s.now c.args.at (c.args.at + 60) inside 60 (omega arith) given refl in
    rw (← c.length_at.ensures, ← c.from-len.ensures, ← c.rays_at.ensures, ← c.from.ensures, held _ _ _ c.check.ensures c.in_ok-check.was, c.check-2.ensures, fields, c.site_at-site.ensures, c.parameter_at-parameter.ensures)
