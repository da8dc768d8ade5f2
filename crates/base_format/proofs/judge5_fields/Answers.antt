-- The checks in order; the fields are read in the section's first 17 octets.
use Rattle.std.proofs.Common.{rules}
use mathlib.Core.Path.{◌≡◌, refl, ◌∙◌}
use Prim.Native.Nat.{◌+◌, ◌≤◌}
use native.Mathlib.Omega.{arith}
use lib.ListN.{length}
use Rattle.rules.specs.Rules.{field, meets_all}
use Rattle.rules.proofs.Moved.{part_field, part_rules}
use Rattle.values.proofs.Published.{count_le}
use Rattle.base_format.specs.Rules.{rules5}
use Rattle.base_format.proofs.judge5_fields.Goals as goal

pub overflow_cast-m : goal.overflow_cast-m
overflow_cast-m c = record { fits = omega (arith, c.level_count-m.ensures, count_le c.product_of-product.result) }

pub returns-in_err-check : goal.returns-in_err-check
unfolding rules5
returns-in_err-check c =
    let inside : c.args.at + 17 ≤ length c.args.s.now = omega (arith, c.requires) in
    let fields : c.fields5.result ≡ meets_all c.args.s.now c.args.at (rules5 c.level_count-m.result) = c.fields5.ensures ∙ part_rules c.args.s.now c.args.at (c.args.at + 17) inside 17 (omega arith) (rules5 c.level_count-m.result) refl in
    search rules

pub returns-in_err-check-2 : goal.returns-in_err-check-2
unfolding rules5
returns-in_err-check-2 c =
    let inside : c.args.at + 17 ≤ length c.args.s.now = omega (arith, c.requires) in
    let fields : c.fields5.result ≡ meets_all c.args.s.now c.args.at (rules5 c.level_count-m.result) = c.fields5.ensures ∙ part_rules c.args.s.now c.args.at (c.args.at + 17) inside 17 (omega arith) (rules5 c.level_count-m.result) refl in
    let said : c.from-said.result ≡ field c.args.s.now c.args.at 6 4 = c.from-said.ensures ∙ c.field.ensures ∙ part_field c.args.s.now c.args.at (c.args.at + 17) inside 6 4 (omega arith) (omega arith) in
    search rules

pub returns : goal.returns
unfolding rules5
returns c =
    let inside : c.args.at + 17 ≤ length c.args.s.now = omega (arith, c.requires) in
    let fields : c.fields5.result ≡ meets_all c.args.s.now c.args.at (rules5 c.level_count-m.result) = c.fields5.ensures ∙ part_rules c.args.s.now c.args.at (c.args.at + 17) inside 17 (omega arith) (rules5 c.level_count-m.result) refl in
    let said : c.from-said.result ≡ field c.args.s.now c.args.at 6 4 = c.from-said.ensures ∙ c.field.ensures ∙ part_field c.args.s.now c.args.at (c.args.at + 17) inside 6 4 (omega arith) (omega arith) in
    search rules
