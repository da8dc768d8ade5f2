-- All ones is no value by the test itself; any other number is worked out, and right by the law.
use mathlib.Core.Path.{◌≡◌, ◌∙◌, sym, ap, subst}
use Prim.Native.Nat.{◌-◌, ◌^◌}
use borrow.Author.Rules.{rules}
use borrow.Author.Tests.{eq-eqb, ne_eqb}
use lib.Ieee.{Float}
use Rattle.scaled.specs.Scaled.{Right, cell_of}
use Rattle.scaled.proofs.Right.{scaled_right}
use Rattle.scaled.proofs.cell_of.Goals as goal
use Rattle.std.specs.Prelude.{Some}

pub returns-then-z-all_ones : goal.returns-then-z-all_ones
unfolding cell_of
returns-then-z-all_ones c = record { exact = simp (eq-eqb _ _ (c.if-z-all_ones.true ∙ c.all_ones.ensures)); near = tt }

pub returns : goal.returns
unfolding cell_of
returns c = let other : c.args.z ≡ 2 ^ c.args.width - 1 → ⊥ = λ e. c.if-z-all_ones.false (e ∙ sym c.all_ones.ensures) in record {
  exact = simp (ne_eqb _ _ other) (ap Some c.unpack.ensures);
  near = subst (λ (y : Float). Right y c.args.bits c.args.z c.args.e c.args.d) (sym c.unpack.ensures)
      (scaled_right c.args.bits c.args.z c.args.e c.args.d c.requires.reference (search rules) c.requires.binary_scale c.requires.decimal_scale);
}
