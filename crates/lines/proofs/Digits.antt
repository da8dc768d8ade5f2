-- A number in decimal is put digit by digit.
use Prim.Native.Nat.{ℕ, ◌+◌, ◌/◌, ◌%◌, ◌≤◌, ◌<◌}
use mathlib.Core.Path.{sym, ap, ◌∙◌}
use mathlib.Core.List.{List, [], ◌∷◌}
use native.Mathlib.Omega.{arith}
use lib.ListN.{length, set}
use Rattle.lent.specs.Lent.{placed}
use Rattle.lent.specs.Put.{Put}
use Rattle.lent.proofs.Lent.{placed_more, placed_set, first_put}
use Rattle.lines.specs.Text.{digit, decimal}
use Rattle.lines.proofs.Decimal.{decimal_one, decimal_more, decimal_longer}

pub one_digit : (d : List ℕ) (at n : ℕ) → n < 10 → at < length d → Put d at (decimal n) (set d at (digit n)) (at + 1)
one_digit d at n h room = record {
  there = first_put d at (digit n) room ∙ placed_set d at (digit n) (digit n ∷ []) (omega arith) ∙ ap (λ (l : List ℕ). placed d at l) (sym (decimal_one n h));
  past = ap (λ (l : List ℕ). at + length l) (sym (decimal_one n h));
  inside = omega arith;
}

pub last_digit : (d e : List ℕ) (at a n : ℕ) → 10 ≤ n → Put d at (decimal (n / 10)) e a → at + length (decimal n) ≤ length d
    → Put d at (decimal n) (set e a (digit (n % 10))) (a + 1)
last_digit d e at a n h x room =
    let longer = decimal_longer n h in
    record {
      there =
          (λ i. set (x.there i) (x.past i) (digit (n % 10)))
          ∙ placed_more d at (decimal (n / 10)) (digit (n % 10)) (omega arith)
          ∙ ap (λ (l : List ℕ). placed d at l) (sym (decimal_more n h));
      past = omega (arith, x.past);
      inside = omega (arith, x.past);
    }
