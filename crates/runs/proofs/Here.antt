-- The run at a place: the levels from there on are that run and then the levels past its digits. The laws by which a caller walks run by run.
use Prim.Native.Nat.{ℕ, zero, suc, ◌+◌, ◌-◌, ◌≤◌, ◌<◌}
use mathlib.Core.Path.{◌≡◌, refl, sym, ap, ◌∙◌}
use mathlib.Core.Bool.{Bool, true, false, cond}
use mathlib.Core.List.{List, [], ◌∷◌, ◌++◌}
use native.Mathlib.Omega.{arith}
use lib.ListN.{length, drop, get_or, replicate, length-append, length-replicate, length-drop, drop_of_length-le, get_or-replicate, get_or-append}
use lib.Seq.{drop-drop, drop_at, get_or-drop}
use lib.Dec.{eqb}
use borrow.Author.Tests.{le-leb, leb-true, eqb-true, eqb-false}
use Rattle.runs.specs.Run.{digit_sum, levels, opens, gives, run_len}
use Rattle.runs.specs.Inner.{digit_count, run_next, known_step, Stands, InHand, Holds}
use Rattle.runs.specs.declared.RunInHand.{RunInHand}
use Rattle.octets.proofs.Orders.{by_order}
use Rattle.lent.proofs.Lent.{drop_here}
use Rattle.runs.proofs.Bins.{levels_nil, levels_open, levels_digit}
use Rattle.runs.proofs.Steps.{digit_count_nil, digit_count_open, digit_count_digit}
use Rattle.runs.specs.declared.Run.{Run}
use Rattle.std.specs.Prelude.{None, Some}

-- ---- every level is at most V
pub append_le : (v : ℕ) (a b : List ℕ) → ((k : ℕ) → get_or a k 0 ≤ v) → ((k : ℕ) → get_or b k 0 ≤ v) → (k : ℕ) → get_or (a ++ b) k 0 ≤ v
append_le v [] b f g k = g k
append_le v (x ∷ a) b f g zero = f 0
append_le v (x ∷ a) b f g (suc k) = append_le v a b (λ j. f (suc j)) g k

replicate_le : (v n x : ℕ) → x ≤ v → (k : ℕ) → get_or (replicate n x) k 0 ≤ v
replicate_le v zero x h k = omega arith
replicate_le v (suc n) x h zero = h
replicate_le v (suc n) x h (suc k) = replicate_le v n x h k

pub levels_le : (v : ℕ) (s : List ℕ) (k : ℕ) → get_or (levels v s) k 0 ≤ v
levels_le v [] k = rw (levels_nil v) (omega arith)
levels_le v (o ∷ s) k =
    by_order o v
    (λ h. rw (levels_open v o s h) (append_le v (replicate (1 + digit_sum v 0 s) o) (levels v s) (replicate_le v (1 + digit_sum v 0 s) o h) (levels_le v s) k))
    (λ h. rw (levels_digit v o s h) (levels_le v s k))

-- ---- past the digits at the front stands a level or the end, and the levels are the same
skip : (v : ℕ) (t : List ℕ) → (levels v t ≡ levels v (drop (digit_count v t) t)) × (opens v (drop (digit_count v t) t) ≡ true)
skip v [] = (ap (λ (n : ℕ). levels v (drop n [])) (sym (digit_count_nil v)), ap (λ (n : ℕ). opens v (drop n [])) (digit_count_nil v))
skip v (o ∷ t) =
    by_order o v
    (λ h. (sym (ap (λ (n : ℕ). levels v (drop n (o ∷ t))) (digit_count_open v o t h)), ap (λ (n : ℕ). opens v (drop n (o ∷ t))) (digit_count_open v o t h) ∙ le-leb o v h))
    (λ h.
    let one : digit_count v (o ∷ t) ≡ suc (digit_count v t) = omega (arith, digit_count_digit v o t h) in
    (levels_digit v o t h ∙ (skip v t).0 ∙ sym (ap (λ (n : ℕ). levels v (drop n (o ∷ t))) one), ap (λ (n : ℕ). opens v (drop n (o ∷ t))) one ∙ (skip v t).1))

digit_count_le : (v : ℕ) (t : List ℕ) → digit_count v t ≤ length t
digit_count_le v [] = omega (arith, digit_count_nil v)
digit_count_le v (o ∷ t) =
    by_order o v
    (λ h. omega (arith, digit_count_open v o t h))
    (λ h. omega (arith, digit_count_digit v o t h, digit_count_le v t))

-- ---- the run that a level octet opens
module _ (v : ℕ) (s : List ℕ) (at : ℕ) (inside : at < length s) (level : get_or s at 0 ≤ v) where
  pub run_levels : levels v (drop at s) ≡ replicate (run_len v s at) (get_or s at 0) ++ levels v (drop (run_next v s at) s)
  run_levels =
      ap (λ (l : List ℕ). levels v l) (drop_here s at inside)
      ∙ levels_open v (get_or s at 0) (drop (at + 1) s) level
      ∙ ap (λ (l : List ℕ). replicate (run_len v s at) (get_or s at 0) ++ l) ((skip v (drop (at + 1) s)).0 ∙ ap (λ (l : List ℕ). levels v l) (drop-drop (digit_count v (drop (at + 1) s)) (at + 1) s))

  pub run_opens : opens v (drop (run_next v s at) s) ≡ true
  run_opens = sym (ap (λ (l : List ℕ). opens v l) (drop-drop (digit_count v (drop (at + 1) s)) (at + 1) s)) ∙ (skip v (drop (at + 1) s)).1

  pub run_next_le : run_next v s at ≤ length s
  run_next_le = omega (arith, digit_count_le v (drop (at + 1) s), length-drop (at + 1) s)

  pub run_fits : run_len v s at ≤ length (levels v (drop at s))
  run_fits = omega (arith, simp (length-append, length-replicate) at (ap length run_levels))

-- past the end there is nothing
pub levels_past : (v : ℕ) (s : List ℕ) (at : ℕ) → length s ≤ at → levels v (drop at s) ≡ []
levels_past v s at h = ap (λ (l : List ℕ). levels v l) (drop_of_length-le s h) ∙ levels_nil v

-- where there are levels to come and no digit stands, a level octet stands
module _ (v : ℕ) (s : List ℕ) (at : ℕ) (opened : opens v (drop at s) ≡ true) (some : 0 < length (levels v (drop at s))) where
  pub level_inside : at < length s
  level_inside = by_order (length s) at (λ h. absurd (omega (arith, ap length (levels_past v s at h)))) (λ h. h)

  pub level_low : get_or s at 0 ≤ v
  level_low = leb-true (get_or s at 0) v (rw (drop_here s at level_inside) at opened)

-- ---- where reading stands
pub stands_first : (v : ℕ) (s : List ℕ) → opens v s ≡ true → Stands v s 0 0
stands_first v s o = record { within = omega arith; rest = refl; opened = o }

-- before the first run none is in hand
pub hand_first : (v : ℕ) (s : List ℕ) → opens v s ≡ true → InHand v s (record { at = 0; bins = 0; end = 0; next = 0 })
hand_first v s o = record { past = stands_first v s o; held = λ none. absurd (omega arith) }

-- the run in hand that holds a bin
pub stands_holding : (v : ℕ) (s : List ℕ) (a : ℕ) (hand : RunInHand) → Holds v s a hand → Stands v s hand.at hand.bins × (hand.end ≡ hand.bins + run_len v s hand.at)
stands_holding v s a hand h = h.is.held (omega (arith, h.before, h.inside))

-- the run there, as long as there are levels to come
module _ (v : ℕ) (s : List ℕ) (at bins : ℕ) (k : Stands v s at bins) (more : bins < length (levels v s)) where
  abbrev L : List ℕ
  L = levels v s

  some_left : 0 < length (levels v (drop at s))
  some_left = omega (arith, simp length-drop at (ap length k.rest))

  pub here_inside : at < length s
  here_inside = level_inside v s at k.opened some_left

  pub here_low : get_or s at 0 ≤ v
  here_low = level_low v s at k.opened some_left

  pub here_fits : bins + run_len v s at ≤ length L
  here_fits = omega (arith, run_fits v s at here_inside here_low, simp length-drop at (ap length k.rest))

  here_rest : drop (bins + run_len v s at) L ≡ levels v (drop (run_next v s at) s)
  here_rest =
      sym (drop-drop (run_len v s at) bins L)
      ∙ ap (λ (l : List ℕ). drop (run_len v s at) l) (k.rest ∙ run_levels v s at here_inside here_low)
      ∙ drop_at (replicate (run_len v s at) (get_or s at 0)) (levels v (drop (run_next v s at) s)) (run_len v s at) (length-replicate (run_len v s at) (get_or s at 0))

  pub here_run : drop bins L ≡ replicate (run_len v s at) (get_or s at 0) ++ drop (bins + run_len v s at) L
  here_run = k.rest ∙ run_levels v s at here_inside here_low ∙ ap (λ (l : List ℕ). replicate (run_len v s at) (get_or s at 0) ++ l) (sym here_rest)

  -- each of its bins has its level
  pub here_level : (a : ℕ) → bins ≤ a → a < bins + run_len v s at → get_or L a 0 ≡ get_or s at 0
  here_level a low high =
      let j : ℕ = a - bins in
      let split : a ≡ bins + j = omega arith in
      let row : List ℕ = replicate (run_len v s at) (get_or s at 0) in
      ap (λ (n : ℕ). get_or L n 0) split
      ∙ sym (get_or-drop bins L j 0)
      ∙ ap (λ (l : List ℕ). get_or l j 0) here_run
      ∙ get_or-append row (drop (bins + run_len v s at) L) 0 j (omega (arith, length-replicate (run_len v s at) (get_or s at 0)))
      ∙ get_or-replicate (run_len v s at) j (get_or s at 0) 0 (omega arith)

  -- what `known_run` asks there
  pub here_known : length L ≤ 2097152 → (at < length s) × (run_len v s at ≤ 2097152)
  here_known few = (here_inside, omega (arith, here_fits))

  -- past the run that it answers, reading stands again
  pub here_next : (len next : ℕ) → len ≡ run_len v s at → next ≡ run_next v s at → (0 < len) × Stands v s next (bins + len)
  here_next len next e f = (
    omega arith,
    record {
      within = omega (arith, here_fits);
      rest = ap (λ (n : ℕ). drop (bins + n) L) e ∙ here_rest ∙ ap (λ (n : ℕ). levels v (drop n s)) (sym f);
      opened = ap (λ (n : ℕ). opens v (drop n s)) f ∙ run_opens v s at here_inside here_low;
    },
  )

-- ---- what the step tells where the run is known
module _ (v left : ℕ) (s : List ℕ) (at : ℕ) where
  abbrev known : Run
  known = record { level = get_or s at 0; len = run_len v s at; next = run_next v s at }

  pub known_ended : None ≡ known_step v left s at → left ≡ 0
  unfolding known_step
  known_ended e = split (eqb left 0) refl e
    where
      split : (b : Bool) → eqb left 0 ≡ b → None ≡ cond b None (Some known) → left ≡ 0
      split true t e = eqb-true left 0 t
      split false t e = absurd (let z : ◌≡◌ {A = ℕ} 0 1 = cc e in omega arith)

  pub known_told : (r : Run) → Some r ≡ known_step v left s at → (0 < left) × (r.level ≡ get_or s at 0) × (r.len ≡ run_len v s at) × (r.next ≡ run_next v s at)
  unfolding known_step
  known_told r e = split (eqb left 0) refl e
    where
      split : (b : Bool) → eqb left 0 ≡ b → Some r ≡ cond b None (Some known) → (0 < left) × (r.level ≡ get_or s at 0) × (r.len ≡ run_len v s at) × (r.next ≡ run_next v s at)
      split true t e = absurd (let z : ◌≡◌ {A = ℕ} 0 1 = cc e in omega arith)
      split false t e = let is : r ≡ known = cc e in (omega (arith, eqb-false left 0 t), λ i. (is i).level, λ i. (is i).len, λ i. (is i).next)

-- ---- octets that give so many bins
both : (x y : Bool) → cond x y false ≡ true → (x ≡ true) × (y ≡ true)
both true y e = (refl, e)
both false y e = absurd (let z : ◌≡◌ {A = ℕ} 0 1 = cc e in omega arith)

pub gives_true : (v n : ℕ) (s : List ℕ) → gives v n s ≡ true → (opens v s ≡ true) × (length (levels v s) ≡ n)
unfolding gives
gives_true v n s e =
    let t = both (opens v s) (eqb (length (levels v s)) n) e in
    (t.0, eqb-true (length (levels v s)) n t.1)
