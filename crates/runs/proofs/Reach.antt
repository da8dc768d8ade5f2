-- How far a forward pass comes before the bins are passed: the octets up to there give no more than is left, and with the next one they give more. So it stands at the octet at fault.
use Prim.Native.Nat.{ℕ, zero, suc, ◌+◌, ◌-◌, ◌*◌, ◌≤◌, ◌<◌}
use mathlib.Core.Path.{◌≡◌, refl, sym, ap, ◌∙◌, subst}
use mathlib.Core.Bool.{true, false, cond}
use mathlib.Core.List.{List, [], ◌∷◌}
use native.Mathlib.Nat.{zero-mul}
use native.Mathlib.Numerals.{add-one}
use native.Mathlib.Omega.{arith}
use lib.ListN.{length, take, get_or}
use lib.Dec.{leb, ltb}
use borrow.Author.Tests.{le-leb, lt-leb, le-ltb, lt-ltb}
use Rattle.octets.proofs.Orders.{by_order}
use Rattle.runs.specs.Run.{base, levels, opens, passed_from, fault_at}
use Rattle.runs.proofs.Bins.{rest, rest_nil, rest_open, rest_digit, rest_bins}

-- in a run whose next digit has the weight w
unfoldable pub reach : ℕ → ℕ → ℕ → List ℕ → ℕ
reach v w left [] = 0
reach v w left (o ∷ s) =
    cond (leb o v)
    (cond (leb 1 left) (suc (reach v 1 (left - 1) s)) 0)
    (cond (ltb left ((o - v - 1) * w)) 0 (suc (reach v (w * base v) (left - (o - v - 1) * w) s)))

pub reach_nil : (v w left : ℕ) → reach v w left [] ≡ 0
unfolding reach
reach_nil v w left = refl

module _ (v w left o : ℕ) (s : List ℕ) where
  pub reach_full : o ≤ v → left < 1 → reach v w left (o ∷ s) ≡ 0
  unfolding reach
  reach_full h g = simp (le-leb o v h, lt-leb 1 left g)

  pub reach_open : o ≤ v → 1 ≤ left → reach v w left (o ∷ s) ≡ suc (reach v 1 (left - 1) s)
  unfolding reach
  reach_open h g = simp (le-leb o v h, le-leb 1 left g)

  pub reach_past : v < o → left < (o - v - 1) * w → reach v w left (o ∷ s) ≡ 0
  unfolding reach
  reach_past h g = simp (lt-leb o v h, lt-ltb left ((o - v - 1) * w) g)

  pub reach_digit : v < o → (o - v - 1) * w ≤ left → reach v w left (o ∷ s) ≡ suc (reach v (w * base v) (left - (o - v - 1) * w) s)
  unfolding reach
  reach_digit h g = simp (lt-leb o v h, le-ltb left ((o - v - 1) * w) g)

-- ---- what the octets up to a place give, and with the next one; and that the next one is no zero digit
record Reached (v w left : ℕ) (s : List ℕ) (k : ℕ) : Type 0 where
  within : k ≤ length s
  before : (j : ℕ) → j ≤ k → rest v w (take j s) ≤ left
  past : k < length s → left < rest v w (take (suc k) s)
  adds : k < length s → get_or s k 0 ≡ v + 1 → ⊥

module _ (v w left o : ℕ) (s : List ℕ) where
  -- this octet adds d, which is more than is left
  stopped : (d : ℕ) → left < d → ((t : List ℕ) → d ≤ rest v w (o ∷ t)) → (o ≡ v + 1 → d ≡ 0) → Reached v w left (o ∷ s) 0
  stopped d more adds zero-digit = record {
    within = omega arith;
    before = λ j h. let none : j ≡ 0 = omega arith in rw none (omega (arith, rest_nil v w));
    past = λ h. omega (arith, adds (take 0 s));
    adds = λ h e. let z = zero-digit e in omega arith;
  }

  -- or no more, and the next one then has the weight w'
  stepped : (d w' k : ℕ) → d ≤ left → ((t : List ℕ) → rest v w (o ∷ t) ≡ d + rest v w' t) → Reached v w' (left - d) s k → Reached v w left (o ∷ s) (suc k)
  stepped d w' k few adds r = record {
    within = let h = r.within in omega arith;
    before = before;
    past = λ h. let g = r.past (omega arith) in omega (arith, adds (take (suc k) s));
    adds = λ h e. r.adds (omega arith) e;
  }
    where
      before : (j : ℕ) → j ≤ suc k → rest v w (take j (o ∷ s)) ≤ left
      before zero h = omega (arith, rest_nil v w)
      before (suc j) h = let g = r.before j (omega arith) in omega (arith, adds (take j s))

reach_is : (v w left : ℕ) (s : List ℕ) → Reached v w left s (reach v w left s)
reach_is v w left [] = rw (reach_nil v w left) none
  where
    before : (j : ℕ) → j ≤ 0 → rest v w (take j []) ≤ left
    before zero h = omega (arith, rest_nil v w)
    before (suc j) h = absurd (omega arith)

    none : Reached v w left [] 0
    none = record { within = omega arith; before = before; past = λ h. absurd (omega arith); adds = λ h e. omega arith }
reach_is v w left (o ∷ s) =
    by_order o v
    (λ low.
    by_order 1 left
    (λ more. rw (reach_open v w left o s low more) (stepped v w left o s 1 1 _ more (λ t. rest_open v w o t low) (reach_is v 1 (left - 1) s)))
    (λ full. rw (reach_full v w left o s low full) (stopped v w left o s 1 full (λ t. omega (arith, rest_open v w o t low)) (λ e. absurd (omega arith)))))
    (λ high.
    let d : ℕ = (o - v - 1) * w in
    by_order d left
    (λ few. rw (reach_digit v w left o s high few) (stepped v w left o s d (w * base v) _ few (λ t. rest_digit v w o t high) (reach_is v (w * base v) (left - d) s)))
    (λ more. rw (reach_past v w left o s high more) (stopped v w left o s d more (λ t. omega (arith, rest_digit v w o t high)) (λ e.
    let z : o - v - 1 ≡ 0 = omega arith in ap (λ (x : ℕ). x * w) z ∙ zero-mul w))))

-- ---- the least place, by its definition
pub passed_least : (v n : ℕ) (s : List ℕ) (q k i : ℕ) → i ≤ q → q ≤ i + k
    → ((p : ℕ) → p < q → length (levels v (take (p + 1) s)) ≤ n) → (q < i + k → n < length (levels v (take (q + 1) s))) → passed_from v n s i k ≡ q
unfolding passed_from
passed_least v n s q zero i low high few more = omega arith
passed_least v n s q (suc k) i low high few more =
    by_order q i
    (λ h.
    let here : q ≡ i = omega arith in
    let many : n < length (levels v (take (i + 1) s)) = subst (λ (p : ℕ). n < length (levels v (take (p + 1) s))) here (more (omega arith)) in
    simp (lt-ltb n (length (levels v (take (i + 1) s))) many) (sym here))
    (λ h. simp (le-ltb n (length (levels v (take (i + 1) s))) (few i h)) (passed_least v n s q k (i + 1) (omega arith) (omega arith) few (λ g. more (omega arith))))

-- ---- the octet at fault
pub opens_take : (v : ℕ) (s : List ℕ) (k : ℕ) → opens v s ≡ true → opens v (take k s) ≡ true
opens_take v s zero e = refl
opens_take v [] (suc k) e = refl
opens_take v (o ∷ s) (suc k) e = e

pub fault_opens : (v n : ℕ) (s : List ℕ) → opens v s ≡ true → fault_at v n s ≡ passed_from v n s 0 (length s)
unfolding fault_at
fault_opens v n s e = simp e

pub fault_above : (v n : ℕ) (s : List ℕ) → opens v s ≡ false → fault_at v n s ≡ 0
unfolding fault_at
fault_above v n s e = simp e

module _ (v n : ℕ) (s : List ℕ) (opened : opens v s ≡ true) where
  bins_upto : (k : ℕ) → length (levels v (take k s)) ≡ rest v 1 (take k s)
  bins_upto k = rest_bins v (take k s) (opens_take v s k opened)

  reached : Reached v 1 n s (reach v 1 n s)
  reached = reach_is v 1 n s

  pub reach_within : reach v 1 n s ≤ length s
  reach_within = reached.within

  -- up to it the octets give no more than n
  pub reach_before : (j : ℕ) → j ≤ reach v 1 n s → length (levels v (take j s)) ≤ n
  reach_before j h = let r = reached.before j h in omega (arith, bins_upto j)

  -- with it they give more
  pub reach_more : reach v 1 n s < length s → n < length (levels v (take (reach v 1 n s + 1) s))
  reach_more h =
      let r = reached.past h in
      let k : ℕ = reach v 1 n s in
      omega (arith, bins_upto (k + 1), ap (λ (j : ℕ). rest v 1 (take j s)) (add-one k))

  -- and it is no zero digit
  pub reach_adds : reach v 1 n s < length s → get_or s (reach v 1 n s) 0 ≡ v + 1 → ⊥
  reach_adds = reached.adds

  pub fault_reach : fault_at v n s ≡ reach v 1 n s
  fault_reach =
      let within = reach_within in
      fault_opens v n s opened
      ∙ passed_least v n s (reach v 1 n s) (length s) 0 (omega arith) (omega arith) (λ p h. reach_before (p + 1) (omega arith)) (λ h. reach_more (omega arith))
