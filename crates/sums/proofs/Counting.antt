-- How a front is counted, sum by sum: what is counted and what the row still has, times the weight, is what the front gives.
use Prim.Native.Nat.{ℕ, ◌+◌, ◌-◌, ◌*◌, ◌≤◌, ◌<◌}
use mathlib.Core.Path.{◌≡◌, sym, ap, ◌∙◌}
use mathlib.Core.List.{List}
use native.Mathlib.Omega.{arith}
use lib.ListN.{length, take, get_or}
use Rattle.runs.specs.Run.{base, levels}
use Rattle.sums.specs.Inner.{total, alone, Laid, Shifted}
use Rattle.sums.proofs.Totals.{total_nothing}
use Rattle.sums.proofs.Weighed.{held, weigh, weighed, opened, front_bins, laid_weighed, laid_total, shifted_weighed, shifted_less}

pub record Counted (v : ℕ) (s : List ℕ) (e : ℕ) (row : List ℕ) (sum weight bins : ℕ) : Type 0 where
  -- the levels, which are in the first sum alone
  levels_in : ℕ
  sums : sum ≡ levels_in + total (held row) 256
  gives : length (levels v (take e s)) ≡ bins + weight * (levels_in + weighed v s (held row) 256)

module _ (v : ℕ) (s : List ℕ) (e : ℕ) where
  pub counted_first : (row : List ℕ) (sum : ℕ) → get_or s 0 0 ≤ v → 256 ≤ length s → e < 256 → get_or s e 0 ≤ v
      → Laid v s e row → sum ≡ total (λ j. alone v (get_or s j 0)) e → Counted v s e row sum 1 0
  counted_first row sum first long few level laid is = record {
    levels_in = opened v s e;
    sums = is ∙ laid_total v s e row few laid;
    gives = omega (arith, front_bins v s e first (omega arith) level, laid_weighed v s e row few laid);
  }

  module _ (old row : List ℕ) (sum next weight bins : ℕ) (ends : get_or old 256 0 ≡ 0) (shifted : Shifted v s old row) (is : next ≡ total (held row) 256) (c : Counted v s e old sum weight bins) where
    pub counted_less : next ≤ sum
    counted_less = omega (arith, is, c.sums, shifted_less v s old row ends shifted)

    pub counted_next : Counted v s e row next (weight * base v) (bins + (sum - next) * weight)
    counted_next = record {
      levels_in = 0;
      sums = omega (arith, is);
      gives =
          let W : ℕ = weighed v s (held row) 256 in
          let more : c.levels_in + weighed v s (held old) 256 ≡ (sum - next) + base v * W = omega (arith, is, c.sums, shifted_weighed v s old row ends shifted, counted_less) in
          c.gives ∙ ap (λ (x : ℕ). bins + weight * x) more ∙ omega arith;
    }

  -- a sum of nothing ends it
  pub counted_all : (row : List ℕ) (weight bins : ℕ) → Counted v s e row 0 weight bins → bins ≡ length (levels v (take e s))
  counted_all row weight bins c =
      let none : total (held row) 256 ≡ 0 = omega (arith, c.sums) in
      let left : c.levels_in + weighed v s (held row) 256 ≡ 0 = omega (arith, c.sums, total_nothing (held row) (weigh v s) 256 none) in
      sym (c.gives ∙ ap (λ (x : ℕ). bins + weight * x) left ∙ omega arith)
