-- `shift` meets its contract: up to the place in hand the row is shifted, from there on it is as it was.
use Prim.Native.Nat.{ℕ, ◌+◌, ◌<◌}
use mathlib.Core.Path.{◌≡◌, refl, sym, ap, ◌∙◌}
use native.Mathlib.Nat.{not-suc-le-zero}
use native.Mathlib.Omega.{arith}
use lib.ListN.{get_or}
use Rattle.sums.specs.Inner.{total, behind}
use Rattle.lent.proofs.Filled.{filled_more}
use Rattle.sums.proofs.Totals.{total_none, total_more, total_same}
use borrow.Author.Rules.{read_above}
use Rattle.sums.proofs.shift.Goals as goal

pub loop-j-init : goal.loop-j-init
loop-j-init c =
    (omega arith, sym (total_none (λ i. behind c.args.v (get_or c.args.octets.now i 0) (get_or c.args.row.now (i + 1) 0))), (λ i h. absurd (not-suc-le-zero h)), λ i h. refl)

pub loop-j-preserved : goal.loop-j-preserved
loop-j-preserved c =
    let f : ℕ → ℕ = λ i. behind c.args.v (get_or c.args.octets.now i 0) (get_or c.args.row.now (i + 1) 0) in
    let is : c.kept-d.result ≡ f c.loop-j.j = c.kept-d.ensures ∙ ap (λ (d : ℕ). behind c.args.v (get_or c.args.octets.now c.loop-j.j 0) d) (c.loop-j.invariant.3 (c.loop-j.j + 1) (omega arith)) in (
      omega arith,
      omega (arith, total_more f c.loop-j.j, is),
      filled_more c.loop-j.row f c.loop-j.j _ (omega arith) c.loop-j.invariant.2 is,
      λ i h. read_above ℕ c.loop-j.row c.loop-j.j i _ 0 _ (omega arith) (c.loop-j.invariant.3 i (omega arith)),
    )

pub returns : goal.returns
returns c =
    let f : ℕ → ℕ = λ i. behind c.args.v (get_or c.args.octets.now i 0) (get_or c.args.row.now (i + 1) 0) in
    let all : c.loop-j.j ≡ 256 = omega arith in
    let row_is : (i : ℕ) → i < 256 → get_or c.loop-j.row i 0 ≡ f i = λ i h. c.loop-j.invariant.2 i (omega arith) in record { value = c.loop-j.invariant.1 ∙ ap (λ (m : ℕ). total f m) all ∙ total_same f (λ i. get_or c.loop-j.row i 0) 256 (λ i h. sym (row_is i h)); shifted = (row_is, c.loop-j.invariant.3 256 (omega arith)) }
