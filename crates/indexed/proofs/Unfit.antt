-- A record is not usable exactly where one of the four reasons holds: the tests are taken apart in their order.
use Prim.Native.Nat.{ℕ, ◌+◌, ◌≤◌, ◌<◌}
use mathlib.Core.Path.{◌≡◌, sym, ◌∙◌}
use mathlib.Core.Bool.{false}
use mathlib.Core.List.{List}
use native.Mathlib.Omega.{arith}
use lib.ListN.{length, drop, get_or}
use borrow.Author.Tests.{lt-leb, le-leb}
use Rattle.runs.specs.Run.{levels, run_len}
use Rattle.octets.proofs.Orders.{by_order}
use Rattle.index.specs.declared.RayRecord.{RayRecord}
use Rattle.index.specs.Index.{usable}
use Rattle.index.proofs.Usable.{usable_outside, usable_above, usable_reached, usable_left}
use Rattle.records.specs.Reasons.{Unfit, outside, above, reached, ends}

module _ (v nb : ℕ) (d : List ℕ) (rec : RayRecord) where
  pub unfit_not : Unfit v nb d rec → usable v nb d rec ≡ false
  unfit_not u =
      by_order (length d) rec.offset
      (λ o. usable_outside v nb d rec o)
      (λ i.
      by_order (get_or d rec.offset 0) v
      (λ l.
      by_order (run_len v d rec.offset) rec.before
      (λ h. usable_reached v nb d rec i l h)
      (λ h. usable_left v nb d rec i l h ∙ lt-leb _ _ (short i l h u)))
      (λ h. usable_above v nb d rec i h))
    where
      short : rec.offset < length d → get_or d rec.offset 0 ≤ v → rec.before < run_len v d rec.offset → Unfit v nb d rec
          → length (levels v (drop rec.offset d)) < rec.before + nb
      short i l h (outside o) = absurd (omega arith)
      short i l h (above a) = absurd (omega arith)
      short i l h (reached r) = absurd (omega arith)
      short i l h (ends e) = e

  pub not_unfit : usable v nb d rec ≡ false → Unfit v nb d rec
  not_unfit n =
      by_order (length d) rec.offset
      (λ o. outside o)
      (λ i.
      by_order (get_or d rec.offset 0) v
      (λ l.
      by_order (run_len v d rec.offset) rec.before
      (λ h. reached h)
      (λ h.
      by_order (rec.before + nb) (length (levels v (drop rec.offset d)))
      (λ e. absurd (let w : ◌≡◌ {A = ℕ} 0 1 = cc (sym n ∙ usable_left v nb d rec i l h ∙ le-leb _ _ e) in omega arith))
      (λ e. ends e)))
      (λ h. above h))
