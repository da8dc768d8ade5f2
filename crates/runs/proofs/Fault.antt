-- Octets have a fault exactly where they do not stand for the levels wanted, and only one, which `fault_at` gives: whatever meets the definition by prefixes is the least such place.
use Prim.Native.Nat.{ℕ, zero, suc, ◌+◌, ◌-◌, ◌*◌, ◌≤◌, ◌<◌}
use mathlib.Core.Path.{◌≡◌, refl, sym, ap, subst, ◌∙◌}
use mathlib.Core.Logic.{◌↔◌}
use mathlib.Core.Bool.{Bool, true, false, false≢true}
use mathlib.Core.List.{List, [], ◌∷◌}
use native.Mathlib.Numerals.{add-one}
use native.Mathlib.Omega.{arith}
use lib.ListN.{length, take, get_or}
use lib.Seq.{take_all}
use borrow.Author.Tests.{leb-false, lt-leb}
use Rattle.octets.proofs.Orders.{by_order}
use Rattle.runs.specs.Run.{base, levels, opens, gives, fault_at}
use Rattle.runs.specs.Runs.{Exactly, AtFault, above, passed, too_few}
use Rattle.runs.proofs.Bins.{levels_nil, rest, rest_nil, rest_open, rest_digit, rest_bins}
use Rattle.runs.proofs.Reach.{reach, reach_within, reach_before, reach_more, reach_adds, passed_least, opens_take, fault_opens, fault_above, fault_reach}
use Rattle.runs.proofs.Meaning.{decodes_levels, levels_decode, gives_exactly, exactly_gives}

-- octets that stand for levels open a run, and their number is known
counted : {v m : ℕ} {s : List ℕ} → Exactly v m s → (opens v s ≡ true) × (m ≡ length (levels v s))
counted x = let d = decodes_levels x.decodes in (d.0, sym x.count ∙ ap length d.1)

count : (v : ℕ) (s : List ℕ) → opens v s ≡ true → Exactly v (length (levels v s)) s
count v s e = record { row = levels v s; decodes = levels_decode v s e; count = refl }

-- fewer octets stand for no more levels
rest_take : (v w : ℕ) (s : List ℕ) (k : ℕ) → rest v w (take k s) ≤ rest v w s
rest_take v w s zero = omega (arith, rest_nil v w)
rest_take v w [] (suc k) = omega arith
rest_take v w (o ∷ s) (suc k) =
    by_order o v
    (λ h. omega (arith, rest_open v w o (take k s) h, rest_open v w o s h, rest_take v 1 s k))
    (λ h. omega (arith, rest_digit v w o (take k s) h, rest_digit v w o s h, rest_take v (w * base v) s k))

fewer : (v : ℕ) (s : List ℕ) (k : ℕ) → opens v s ≡ true → length (levels v (take k s)) ≤ length (levels v s)
fewer v s k e = omega (arith, rest_bins v s e, rest_bins v (take k s) (opens_take v s k e), rest_take v 1 s k)

-- ---- where they are not given, there is one
pub fault_is : (v n : ℕ) (s : List ℕ) → (Exactly v n s → ⊥) → AtFault v n s (fault_at v n s)
fault_is v n s none = go s refl (opens v s) refl
  where
    opened : opens v s ≡ true → AtFault v n s (reach v 1 n s)
    opened e =
        let k : ℕ = reach v 1 n s in
        let within = reach_within v n s e in
        by_order (length s) k
        (λ h.
        let end : length s ≡ k = omega arith in
        let all = ap (λ (t : List ℕ). length (levels v t)) (take_all k s h) in
        let some = reach_before v n s e k (omega arith) in
        subst (AtFault v n s) end (by_order n (length (levels v s)) (λ g. absurd (none (subst (λ (m : ℕ). Exactly v m s) (let same : length (levels v s) ≡ n = omega arith in same) (count v s e)))) (λ g. too_few (count v s e) g)))
        (λ h. passed (count v (take (k + 1) s) (opens_take v s (k + 1) e)) (reach_more v n s e h) (λ j m g x. let c = (counted x).1 in let b = reach_before v n s e (j + 1) (omega arith) in omega arith))

    go : (t : List ℕ) → s ≡ t → (b : Bool) → opens v s ≡ b → AtFault v n s (fault_at v n s)
    go t is true e = rw (fault_reach v n s e) (opened e)
    go [] is false e = absurd (false≢true (sym e ∙ ap (opens v) is))
    go (o ∷ t) is false e = rw (fault_above v n s e) (above is (leb-false o v (sym (ap (opens v) is) ∙ e)))

-- ---- and it is none but that
pub fault_only : (v n i : ℕ) (s : List ℕ) → AtFault v n s i → i ≡ fault_at v n s
fault_only v n i s (above {o} {t} is h) = sym (fault_above v n s (ap (opens v) is ∙ lt-leb o v h))
fault_only v n i s (passed {m = m} x more first) =
    let c = counted x in
    let e = opened c.0 in
    sym (fault_opens v n s e ∙ passed_least v n s i (length s) 0 (omega arith) (let h = inside in omega arith)
    (λ p h. first p _ h (count v (take (p + 1) s) (opens_take v s (p + 1) e))) (λ h. omega (arith, c.1)))
  where
    opened : opens v (take (i + 1) s) ≡ true → opens v s ≡ true
    opened e = of s (subst (λ (k : ℕ). opens v (take k s) ≡ true) (add-one i) e)
      where
        of : (s : List ℕ) → opens v (take (suc i) s) ≡ true → opens v s ≡ true
        of [] e = refl
        of (o ∷ s) e = e

    inside : i < length s
    inside =
        by_order (length s) i
        (λ h. absurd (by_order (length s) 0
        (λ none. omega (arith, (counted x).1, ap (λ (t : List ℕ). length (levels v t)) (take_all (i + 1) s (omega arith) ∙ sym (take_all 0 s none)), ap length (levels_nil v)))
        (λ some. let f = first (length s - 1) m (omega arith) (subst (Exactly v m) (take_all (i + 1) s (omega arith) ∙ sym (take_all (length s - 1 + 1) s (omega arith))) x) in omega arith)))
        (λ h. h)
fault_only v n i s (too_few {m} x less) =
    let c = counted x in
    sym (fault_opens v n s c.0 ∙ passed_least v n s (length s) (length s) 0 (omega arith) (omega arith)
    (λ p h. omega (arith, fewer v s (p + 1) c.0, c.1)) (λ h. absurd (omega arith)))

-- only one
pub fault_one : {v n i j : ℕ} {s : List ℕ} → AtFault v n s i → AtFault v n s j → i ≡ j
fault_one {v} {n} {i} {j} {s} a b = fault_only v n i s a ∙ sym (fault_only v n j s b)

-- exactly where the levels wanted are not given
pub fault_given : {v n i : ℕ} {s : List ℕ} → AtFault v n s i → Exactly v n s → ⊥
fault_given (above {o} is h) x = false≢true (sym (ap (opens _) is ∙ lt-leb o _ h) ∙ (counted x).0)
fault_given {v} {n} {i} {s} (passed y more first) x = let c = counted x in omega (arith, (counted y).1, c.1, fewer v s (i + 1) c.0)
fault_given (too_few y less) x = omega (arith, (counted y).1, (counted x).1)

pub fault_where : (v n : ℕ) (s : List ℕ) → ((i : ℕ) × AtFault v n s i) ↔ (Exactly v n s → ⊥)
fault_where v n s = ((λ a. fault_given a.1), (λ none. (fault_at v n s, fault_is v n s none)))

-- the same by the definition that the contracts cite
pub gives_fault : (v n : ℕ) (s : List ℕ) → gives v n s ≡ false → AtFault v n s (fault_at v n s)
gives_fault v n s e = fault_is v n s (λ x. false≢true (sym e ∙ exactly_gives v n s x))

pub fault_gives : (v n : ℕ) (s : List ℕ) → ((i : ℕ) × AtFault v n s i) ↔ (gives v n s ≡ false)
fault_gives v n s = (to (gives v n s) refl, (λ e. (fault_at v n s, gives_fault v n s e)))
  where
    to : (b : Bool) → gives v n s ≡ b → ((i : ℕ) × AtFault v n s i) → b ≡ false
    to false e a = refl
    to true e a = absurd (fault_given a.1 (gives_exactly v n s e))

-- ---- it is an octet or the end, and never a zero digit
pub fault_inside : (v n : ℕ) (s : List ℕ) → fault_at v n s ≤ length s
fault_inside v n s = go (opens v s) refl
  where
    go : (b : Bool) → opens v s ≡ b → fault_at v n s ≤ length s
    go true e = let h = reach_within v n s e in omega (arith, fault_reach v n s e)
    go false e = omega (arith, fault_above v n s e)

pub fault_no_zero : {v n i : ℕ} {s : List ℕ} → AtFault v n s i → opens v s ≡ true → i < length s → get_or s i 0 ≡ v + 1 → ⊥
fault_no_zero {v} {n} {i} {s} a e h z =
    let is = fault_only v n i s a ∙ fault_reach v n s e in
    reach_adds v n s e (omega arith) (ap (λ (k : ℕ). get_or s k 0) (sym is) ∙ z)
