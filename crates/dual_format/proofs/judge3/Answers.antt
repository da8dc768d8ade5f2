-- The checks in order; past the first they are made in the section's first 58 octets.
use Rattle.std.proofs.Common.{rules}
use mathlib.Core.Path.{◌≡◌, refl, sym, ◌∙◌, ap}
use mathlib.Core.Bool.{true, false, ◌&&◌}
use mathlib.Core.List.{List}
use Prim.Native.Nat.{ℕ, ◌+◌, ◌*◌, ◌≤◌, ◌<◌, ◌-◌}
use native.Mathlib.Omega.{arith}
use lib.ListN.{length, take, drop}
use lib.Dec.{eqb, leb}
use borrow.Author.Tests.{eqb-true, leb-true, leb-false, ne_eqb, lt-leb}
use Rattle.rules.specs.Rules.{field, meets, meets_all}
use Rattle.rules.specs.Fields.{length_at, rays_at, points_at, parameter_at}
use Rattle.rules.proofs.Moved.{part_field, part_rays, part_points, part_meets, part_rules}
use Rattle.sections.proofs.Checking.{failed, held}
use Rattle.dual_format.specs.Rules.{rules3, scan_rules}
use Rattle.dual_format.specs.Fields.{with_lists, length3}
use Rattle.dual_format.proofs.Products.{part_lists}
use Rattle.dual_format.proofs.judge3.Goals as goal

-- what is read in the first 58 octets is read in the file
module _ (s : List ℕ) (at : ℕ) (inside : at + 58 ≤ length s) where
  abbrev part : List ℕ
  part = take (at + 58 - at) (drop at s)

  lists : with_lists 58 53 54 part 0 (rays_at part 0) ≡ length3 s at
  lists = part_lists s at (at + 58) inside 58 53 54 (rays_at part 0) (omega arith) (omega arith) (omega arith) (omega arith) ∙ ap (with_lists 58 53 54 s at) (part_rays s at (at + 58) inside (omega arith))

  fields : meets_all part 0 rules3 ≡ meets_all s at rules3
  unfolding rules3
  fields = part_rules s at (at + 58) inside 58 (omega arith) rules3 refl

  scan : meets_all part 0 scan_rules ≡ meets_all s at scan_rules
  unfolding scan_rules
  scan = part_rules s at (at + 58) inside 58 (omega arith) scan_rules refl

-- the section is long enough
long : (s : List ℕ) (at n : ℕ) → n ≡ length_at s at → leb 58 n ≡ true → at + length_at s at ≤ length s → at + 58 ≤ length s
long s at n e t h = omega (arith, e, leb-true 58 n t, h)

pub returns-in_err-check : goal.returns-in_err-check
unfolding with_lists
returns-in_err-check c =
    let f = failed _ _ _ c.check.ensures _ c.in_err-check.was c.from_residual.ensures.1 in
    let short : c.from-len.result < 58 = leb-false 58 c.from-len.result f.0 in
    rw (ne_eqb (length_at c.args.s.now c.args.at) (length3 c.args.s.now c.args.at) (λ e. omega (arith, short, c.from-len.ensures, c.length_at.ensures))) f.1

pub returns-in_err-check-2 : goal.returns-in_err-check-2
returns-in_err-check-2 c =
    let len = c.from-len.ensures ∙ c.length_at.ensures in
    let inside = long c.args.s.now c.args.at _ len (held _ _ _ c.check.ensures c.in_ok-check.was) c.requires in
    let due = c.with_lists-due.ensures ∙ ap (λ (r : ℕ). with_lists 58 53 54 (part c.args.s.now c.args.at inside) 0 r) c.rays_at.ensures ∙ lists c.args.s.now c.args.at inside in
    let f = failed _ _ _ c.check-2.ensures _ c.in_err-check-2.was c.from_residual-in_err-check-2.ensures.1 in
    rw (← len, ← due, f.0) f.1

pub returns-in_err-check-3 : goal.returns-in_err-check-3
returns-in_err-check-3 c =
    let len = c.from-len.ensures ∙ c.length_at.ensures in
    let inside = long c.args.s.now c.args.at _ len (held _ _ _ c.check.ensures c.in_ok-check.was) c.requires in
    let due = c.with_lists-due.ensures ∙ ap (λ (r : ℕ). with_lists 58 53 54 (part c.args.s.now c.args.at inside) 0 r) c.rays_at.ensures ∙ lists c.args.s.now c.args.at inside in
    let f = failed _ _ _ c.check-3.ensures _ c.in_err-check-3.was c.from_residual-in_err-check-3.ensures.1 in
    rw (← len, ← due, held _ _ _ c.check-2.ensures c.in_ok-check-2.was, ← fields c.args.s.now c.args.at inside, ← c.fields3.ensures, f.0) f.1

pub returns-in_err-check-4 : goal.returns-in_err-check-4
returns-in_err-check-4 c =
    let len = c.from-len.ensures ∙ c.length_at.ensures in
    let inside = long c.args.s.now c.args.at _ len (held _ _ _ c.check.ensures c.in_ok-check.was) c.requires in
    let due = c.with_lists-due.ensures ∙ ap (λ (r : ℕ). with_lists 58 53 54 (part c.args.s.now c.args.at inside) 0 r) c.rays_at.ensures ∙ lists c.args.s.now c.args.at inside in
    let f = failed _ _ _ c.check-4.ensures _ c.in_err-check-4.was c.from_residual-in_err-check-4.ensures.1 in
    rw (← len, ← due, held _ _ _ c.check-2.ensures c.in_ok-check-2.was, ← fields c.args.s.now c.args.at inside, ← c.fields3.ensures, held _ _ _ c.check-3.ensures c.in_ok-check-3.was, ← scan c.args.s.now c.args.at inside, ← c.scan_fields.ensures, f.0) f.1

pub returns : goal.returns
returns c =
    let len = c.from-len.ensures ∙ c.length_at.ensures in
    let inside = long c.args.s.now c.args.at _ len (held _ _ _ c.check.ensures c.in_ok-check.was) c.requires in
    let due = c.with_lists-due.ensures ∙ ap (λ (r : ℕ). with_lists 58 53 54 (part c.args.s.now c.args.at inside) 0 r) c.rays_at.ensures ∙ lists c.args.s.now c.args.at inside in
    let said = c.from-said.ensures ∙ c.field.ensures ∙ part_field c.args.s.now c.args.at (c.args.at + 58) inside 7 4 (omega arith) (omega arith) in
    let points = c.points_at.ensures ∙ part_points c.args.s.now c.args.at (c.args.at + 58) inside (omega arith) in
    rw (← len, ← due, held _ _ _ c.check-2.ensures c.in_ok-check-2.was, ← fields c.args.s.now c.args.at inside, ← c.fields3.ensures, held _ _ _ c.check-3.ensures c.in_ok-check-3.was, ← scan c.args.s.now c.args.at inside, ← c.scan_fields.ensures, held _ _ _ c.check-4.ensures c.in_ok-check-4.was, ← said, ← points) c.check-5.ensures
