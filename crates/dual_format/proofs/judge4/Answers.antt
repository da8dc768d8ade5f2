-- The checks in order; past the first they are made in the section's first 61 octets.
use Rattle.std.proofs.Common.{rules}
use mathlib.Core.Path.{◌≡◌, refl, sym, ◌∙◌, ap}
use mathlib.Core.Bool.{true, false, ◌&&◌}
use mathlib.Core.List.{List}
use Prim.Native.Nat.{ℕ, ◌+◌, ◌*◌, ◌≤◌, ◌<◌, ◌-◌}
use native.Mathlib.Omega.{arith}
use lib.ListN.{length, take, drop}
use lib.Dec.{eqb, leb}
use borrow.Author.Tests.{eqb-true, leb-true, leb-false, ne_eqb, lt-leb}
use Rattle.rules.specs.Rules.{field, meets, meets_all}
use Rattle.rules.specs.Fields.{length_at, rays_at, points_at, parameter_at}
use Rattle.rules.proofs.Moved.{part_field, part_rays, part_points, part_meets, part_rules}
use Rattle.sections.proofs.Checking.{failed, held}
use Rattle.dual_format.specs.Rules.{rules4}
use Rattle.dual_format.specs.Fields.{with_lists, least4, site_at}
use Rattle.dual_format.proofs.Products.{part_lists}
use Rattle.dual_format.proofs.judge4.Goals as goal

-- what the section needs is read in the first 61 octets
due : (s : List ℕ) (at rays : ℕ) → at + 61 ≤ length s → with_lists 61 56 57 (take (at + 61 - at) (drop at s)) 0 rays ≡ least4 s at rays
due s at rays inside = part_lists s at (at + 61) inside 61 56 57 rays (omega arith) (omega arith) (omega arith) (omega arith)

-- the section is long enough
long : (s : List ℕ) (at n : ℕ) → n ≡ length_at s at → leb 61 n ≡ true → at + length_at s at ≤ length s → at + 61 ≤ length s
long s at n e t h = omega (arith, e, leb-true 61 n t, h)

pub returns-in_err-check : goal.returns-in_err-check
unfolding with_lists
returns-in_err-check c =
    let f = failed _ _ _ c.check.ensures _ c.in_err-check.was c.from_residual.ensures.1 in
    let short : c.from-len.result < 61 = leb-false 61 c.from-len.result f.0 in
    rw (lt-leb (least4 c.args.s.now c.args.at (rays_at c.args.s.now c.args.x.section3)) (length_at c.args.s.now c.args.at) (omega (arith, short, c.from-len.ensures, c.length_at.ensures))) f.1

pub returns-in_err-check-2 : goal.returns-in_err-check-2
returns-in_err-check-2 c =
    let len = c.from-len.ensures ∙ c.length_at.ensures in
    let inside = long c.args.s.now c.args.at _ len (held _ _ _ c.check.ensures c.in_ok-check.was) c.requires in
    let f = failed _ _ _ c.check-2.ensures _ c.in_err-check-2.was c.from_residual-in_err-check-2.ensures.1 in
    rw (← len, ← c.rays_at.ensures, ← due c.args.s.now c.args.at c.rays_at.result inside, ← c.with_lists-due.ensures, f.0) f.1

pub returns : goal.returns
unfolding rules4
returns c =
    let len = c.from-len.ensures ∙ c.length_at.ensures in
    let inside = long c.args.s.now c.args.at _ len (held _ _ _ c.check.ensures c.in_ok-check.was) c.requires in
    let given = rules4 c.parameter_at-parameter.result c.site_at-site.result in
    let fields : c.fields4.result ≡ meets_all c.args.s.now c.args.at given = c.fields4.ensures ∙ part_rules c.args.s.now c.args.at (c.args.at + 61) inside 61 (omega arith) given refl in
    rw (← len, ← c.rays_at.ensures, ← due c.args.s.now c.args.at c.rays_at.result inside, ← c.with_lists-due.ensures, held _ _ _ c.check-2.ensures c.in_ok-check-2.was, c.check-3.ensures, fields, c.site_at-site.ensures, c.parameter_at-parameter.ensures)
