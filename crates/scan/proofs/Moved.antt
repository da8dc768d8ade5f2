-- Whole runs at the front taken off: what a scan of the octets behind them finds, moved by their number, is what a scan of all finds.
use Prim.Native.Nat.{ℕ, ◌+◌, ◌-◌, ◌≤◌}
use mathlib.Core.Path.{◌≡◌, refl, sym, ap, ◌∙◌}
use mathlib.Core.Bool.{Bool, true, false, cond}
use mathlib.Core.List.{List}
use native.Mathlib.Omega.{arith}
use lib.ListN.{length, drop}
use lib.Seq.{drop-drop}
use lib.Dec.{eqb}
use Rattle.runs.specs.Run.{levels, opens, gives}
use Rattle.runs.proofs.Bins.{rest, rest_bins}
use Rattle.runs.proofs.Reach.{reach, fault_reach}
use Rattle.sums.specs.Inner.{Fronts}
use Rattle.sums.proofs.Fronts.{opens_first, opens_there, rest_behind, reach_behind}
use Rattle.scan.specs.Inner.{scanned, moved}
use Rattle.scan.proofs.Scanning.{verdict, taken}
use Rattle.std.specs.Prelude.{Err, Ok, Result, ⊤}

-- octets that open with a level, by the pass
by_bins : (v n : ℕ) (s : List ℕ) → opens v s ≡ true → gives v n s ≡ eqb (length (levels v s)) n
unfolding gives
by_bins v n s e = simp e

opened : (v n : ℕ) (s : List ℕ) → opens v s ≡ true → scanned v n s ≡ verdict (rest v 1 s) n (reach v 1 n s)
opened v n s e = (λ i. cond (by_bins v n s e i) (Ok tt) (Err (fault_reach v n s e i))) ∙ ap (λ (b : ℕ). verdict b n (reach v 1 n s)) (rest_bins v s e)

moved_verdict : (k x left i : ℕ) → moved k (verdict x left i) ≡ verdict x left (k + i)
moved_verdict k x left i = go (eqb x left)
  where
    go : (b : Bool) → moved k (cond b (Ok tt) (Err i)) ≡ cond b (Ok tt) (Err (k + i))
    go true = refl
    go false = refl

moved_twice : (a b : ℕ) (r : Result ⊤ ℕ) → moved a (moved b r) ≡ moved (a + b) r
moved_twice a b (Ok tt) = refl
moved_twice a b (Err i) = ap (λ (k : ℕ). Err k) (omega arith)

pub moved_none : (r : Result ⊤ ℕ) → moved 0 r ≡ r
moved_none (Ok tt) = refl
moved_none (Err i) = ap (λ (k : ℕ). Err k) (omega arith)

past_front : (v left : ℕ) (s : List ℕ) (e bins : ℕ) → Fronts v s e bins → bins ≤ left → moved e (scanned v (left - bins) (drop e s)) ≡ scanned v left s
past_front v left s e bins front few =
    ap (λ (r : Result ⊤ ℕ). moved e r) (opened v (left - bins) (drop e s) (opens_there v s e front.1 front.2))
    ∙ moved_verdict e (rest v 1 (drop e s)) (left - bins) (reach v 1 (left - bins) (drop e s))
    ∙ taken (rest v 1 (drop e s)) bins (rest v 1 s) left _ _ few (rest_behind v s e bins front) (sym (reach_behind v s e bins front left few))
    ∙ sym (opened v left s (opens_first v s front.0))

-- one front more
pub front_more : (v left : ℕ) (s : List ℕ) (at e bins : ℕ) → Fronts v (drop at s) e bins → bins ≤ left
    → moved (at + e) (scanned v (left - bins) (drop (at + e) s)) ≡ moved at (scanned v left (drop at s))
front_more v left s at e bins front few =
    ap (λ (l : List ℕ). moved (at + e) (scanned v (left - bins) l)) (sym (drop-drop e at s))
    ∙ sym (moved_twice at e (scanned v (left - bins) (drop e (drop at s))))
    ∙ ap (λ (r : Result ⊤ ℕ). moved at r) (past_front v left (drop at s) e bins front few)
