-- The part that is lent on is the table of the section: the two ways to say its length agree.
use Rattle.base_format.specs.Parts.{table_at}
use Rattle.values.specs.Table.{table_right}
use Rattle.rules.specs.Fields.{length_at}
use lib.ListN.{take, drop}
use native.Mathlib.Omega.{arith}
use Prim.Native.Nat.{ℕ, ◌+◌, ◌-◌}
use mathlib.Core.Path.{◌≡◌, ◌∙◌, ap}
use Rattle.base_format.proofs.table_at.Goals as goal

pub returns : goal.returns
unfolding table_at
returns c = let len = length_at c.args.s.now c.args.at in
    let span : c.end_at-to.result - (c.args.at + 17) ≡ len - 17 = omega arith in
    c.table_right.ensures ∙ ap (λ (k : ℕ). table_right (take k (drop (c.args.at + 17) c.args.s.now)) c.args.product) span
