-- The checks in order; past the length they are made in the section's own octets.
use Rattle.std.proofs.Common.{rules}
use mathlib.Core.Path.{◌≡◌, refl, sym, ◌∙◌, ap}
use mathlib.Core.Bool.{true, false, ◌&&◌}
use mathlib.Core.List.{List}
use Prim.Native.Nat.{ℕ, ◌+◌, ◌*◌, ◌≤◌, ◌<◌, ◌-◌}
use native.Mathlib.Omega.{arith}
use lib.ListN.{length, take, drop}
use lib.Dec.{eqb, leb}
use borrow.Author.Tests.{eqb-true, leb-true, leb-false, ne_eqb, lt-leb}
use Rattle.rules.specs.Rules.{field, meets, meets_all}
use Rattle.rules.specs.Fields.{length_at, rays_at, points_at, parameter_at}
use Rattle.rules.proofs.Moved.{part_field, part_rays, part_points, part_meets, part_rules}
use Rattle.sections.proofs.Checking.{failed, held}
use Rattle.scaled.specs.Scaled.{finite_single}
use Rattle.dual_format.specs.Rules.{rules5, width_rule}
use Rattle.dual_format.specs.Fields.{reference_at}
use Rattle.dual_format.proofs.judge5.Goals as goal

-- what is read in the section's 21 octets is read in the file
module _ (s : List ℕ) (at : ℕ) (inside : at + 21 ≤ length s) where
  abbrev part : List ℕ
  part = take (at + 21 - at) (drop at s)

  fields : meets_all part 0 rules5 ≡ meets_all s at rules5
  unfolding rules5
  fields = part_rules s at (at + 21) inside 21 (omega arith) rules5 refl

  packing : (finite_single (reference_at part 0) && meets part 0 width_rule) ≡ (finite_single (reference_at s at) && meets s at width_rule)
  unfolding reference_at
  packing =
      let r = part_field s at (at + 21) inside 12 4 (omega arith) (omega arith) in
      let width = part_meets s at (at + 21) inside 21 (omega arith) width_rule refl in
      λ j. finite_single (r j) && width j

-- the section is as long as it should be
long : (s : List ℕ) (at n : ℕ) → n ≡ length_at s at → eqb n 21 ≡ true → at + length_at s at ≤ length s → at + 21 ≤ length s
long s at n e t h = omega (arith, e, eqb-true n 21 t, h)

pub returns-in_err-check-2 : goal.returns-in_err-check-2
returns-in_err-check-2 c =
    let inside = long c.args.s.now c.args.at _ c.length_at.ensures (held _ _ _ c.check.ensures c.in_ok-check.was) c.requires in
    let f = failed _ _ _ c.check-2.ensures _ c.in_err-check-2.was c.from_residual-in_err-check-2.ensures.1 in
    rw (← c.length_at.ensures, held _ _ _ c.check.ensures c.in_ok-check.was, ← fields c.args.s.now c.args.at inside, ← c.fields5.ensures, f.0) f.1

pub returns-in_err-check-3 : goal.returns-in_err-check-3
returns-in_err-check-3 c =
    let inside = long c.args.s.now c.args.at _ c.length_at.ensures (held _ _ _ c.check.ensures c.in_ok-check.was) c.requires in
    let f = failed _ _ _ c.check-3.ensures _ c.in_err-check-3.was c.from_residual-in_err-check-3.ensures.1 in
    rw (← c.length_at.ensures, held _ _ _ c.check.ensures c.in_ok-check.was, ← fields c.args.s.now c.args.at inside, ← c.fields5.ensures, held _ _ _ c.check-2.ensures c.in_ok-check-2.was, ← packing c.args.s.now c.args.at inside, ← c.packing_ok.ensures, f.0) f.1

pub returns : goal.returns
returns c =
    let inside = long c.args.s.now c.args.at _ c.length_at.ensures (held _ _ _ c.check.ensures c.in_ok-check.was) c.requires in
    let said = c.from-said.ensures ∙ c.field.ensures ∙ part_field c.args.s.now c.args.at (c.args.at + 21) inside 6 4 (omega arith) (omega arith) in
    rw (← c.length_at.ensures, held _ _ _ c.check.ensures c.in_ok-check.was, ← fields c.args.s.now c.args.at inside, ← c.fields5.ensures, held _ _ _ c.check-2.ensures c.in_ok-check-2.was, ← packing c.args.s.now c.args.at inside, ← c.packing_ok.ensures, held _ _ _ c.check-3.ensures c.in_ok-check-3.was, ← said, ← c.points_at-points.ensures) c.check-4.ensures
