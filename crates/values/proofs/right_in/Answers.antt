-- With the pairs passed all right or not, the whole is right exactly when they are and what is left is.
use mathlib.Core.Bool.{Bool, ◌&&◌, and-true}
use lib.IntN.{pos}
use mir.Syntax.{w16}
use mir.Facts.{to_z-of_z}
use mathlib.Core.Path.{◌∙◌, sym, ap}
use Prim.Native.Nat.{◌+◌, ◌*◌}
use native.Mathlib.Omega.{arith}
use lib.ListN.{get_or}
use Rattle.values.specs.Inner.{pair_right}
use Rattle.values.proofs.Octets.{unlike_length, with_pair, no_pair}
use borrow.Author.Rules.{rules}
use Rattle.values.proofs.right_in.Goals as goal

pub returns-then-octets-m : goal.returns-then-octets-m
returns-then-octets-m c = sym (unlike_length c.args.octets.now c.args.table.now (λ e. c.if-octets-m.true (omega arith)))

pub returns-then-octets-ne0 : goal.returns-then-octets-ne0
returns-then-octets-ne0 c = sym (unlike_length c.args.octets.now c.args.table.now (λ e. c.if-octets-ne0.true (omega arith)))

pub loop-i-preserved : goal.loop-i-preserved
loop-i-preserved c = let pair = c.pair_right-right.ensures ∙ ap (pair_right (get_or c.args.octets.now (2 * c.loop-i.i) 0) (get_or c.args.octets.now (2 * c.loop-i.i + 1) 0)) (to_z-of_z {w = w16} {z = get_or c.args.table.now c.loop-i.i (pos 0)} (search rules)) in
    (omega arith, c.loop-i.invariant.1, sym (with_pair c.args.octets.now c.args.table.now c.loop-i.i c.loop-i.right _ (omega arith) c.loop-i.invariant.1 pair) ∙ c.loop-i.invariant.2)

pub returns : goal.returns
returns c = sym (and-true c.loop-i.right) ∙ ap (λ (b : Bool). c.loop-i.right && b) (sym (no_pair c.args.octets.now c.args.table.now c.loop-i.i (omega arith) c.loop-i.invariant.1)) ∙ c.loop-i.invariant.2
