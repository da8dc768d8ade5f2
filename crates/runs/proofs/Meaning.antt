-- The relation built from runs and the definition `levels` agree: each run's digits are those at the front of what follows its level.
use Prim.Native.Nat.{ℕ, ◌+◌, ◌-◌, ◌*◌, ◌^◌, ◌≤◌}
use mathlib.Core.Path.{◌≡◌, refl, sym, ap, subst, ◌∙◌}
use mathlib.Core.Bool.{true}
use mathlib.Core.List.{List, [], ◌∷◌, ◌++◌}
use lib.ListN.{length, replicate}
use borrow.Author.Tests.{le-leb, leb-true, eq-eqb}
use Rattle.runs.specs.Run.{base, digit_sum, levels, opens, gives}
use Rattle.runs.specs.Runs.{Digits, no_digit, digit, sum_from, Decodes, no_run, run, Exactly}
use Rattle.octets.proofs.Orders.{by_order}
use Rattle.runs.proofs.Bins.{digit_sum_nil, digit_sum_open, digit_sum_digit, levels_nil, levels_open, levels_digit}
use Rattle.runs.proofs.Here.{gives_true}

sum_from_nil : (v k : ℕ) → sum_from v k [] ≡ 0
unfolding sum_from
sum_from_nil v k = refl

sum_from_cons : (v k o : ℕ) (ds : List ℕ) → sum_from v k (o ∷ ds) ≡ (o - v - 1) * base v ^ k + sum_from v (k + 1) ds
unfolding sum_from
sum_from_cons v k o ds = refl

-- ---- from the relation to the definition
-- where no digit comes next, nothing is added
stop : (v k : ℕ) (s : List ℕ) → opens v s ≡ true → digit_sum v k s ≡ 0
stop v k [] e = digit_sum_nil v k
stop v k (o ∷ s) e = digit_sum_open v k o s (leb-true o v e)

sum_front : (v k : ℕ) {ds : List ℕ} (s : List ℕ) → opens v s ≡ true → Digits v ds → digit_sum v k (ds ++ s) ≡ sum_from v k ds
sum_front v k s e no_digit = stop v k s e ∙ sym (sum_from_nil v k)
sum_front v k s e (digit {o} {ds} h more) =
    digit_sum_digit v k o (ds ++ s) h ∙ ap (λ (m : ℕ). (o - v - 1) * base v ^ k + m) (sum_front v (k + 1) s e more) ∙ sym (sum_from_cons v k o ds)

levels_front : (v : ℕ) {ds : List ℕ} (s : List ℕ) → Digits v ds → levels v (ds ++ s) ≡ levels v s
levels_front v s no_digit = refl
levels_front v s (digit {o} {ds} h more) = levels_digit v o (ds ++ s) h ∙ levels_front v s more

pub decodes_levels : {v : ℕ} {s ls : List ℕ} → Decodes v s ls → (opens v s ≡ true) × (ls ≡ levels v s)
decodes_levels {v} no_run = (refl, sym (levels_nil v))
decodes_levels {v} (run {x} {ds} {s} {ls} h more rest) =
    let r = decodes_levels rest in
    (le-leb x v h, (λ i. replicate (1 + sym (sum_front v 0 s r.0 more) i) x ++ (r.1 ∙ sym (levels_front v s more)) i) ∙ sym (levels_open v x (ds ++ s) h))

-- octets stand for one row of levels at most
pub decodes_one : {v : ℕ} {s ls ms : List ℕ} → Decodes v s ls → Decodes v s ms → ls ≡ ms
decodes_one d e = (decodes_levels d).1 ∙ sym (decodes_levels e).1

-- ---- from the definition to the relation
-- octets cut where their digits end, the rest of them decoded
record Cut (v : ℕ) (s : List ℕ) : Type 0 where
  ds : List ℕ
  tail : List ℕ
  whole : ds ++ tail ≡ s
  digits : Digits v ds
  sum : (k : ℕ) → sum_from v k ds ≡ digit_sum v k s
  decoded : Decodes v tail (levels v s)

-- a level in front of octets that are cut
opened : (v o : ℕ) (s : List ℕ) → o ≤ v → Cut v s → Decodes v (o ∷ s) (levels v (o ∷ s))
opened v o s h c =
    rw (levels_open v o s h, ← c.sum 0) (subst (λ (t : List ℕ). Decodes v (o ∷ t) (replicate (1 + sum_from v 0 c.ds) o ++ levels v s)) c.whole (run h c.digits c.decoded))

cut : (v : ℕ) (s : List ℕ) → Cut v s
cut v [] =
    record { ds = []; tail = []; whole = refl; digits = no_digit; sum = λ k. sum_from_nil v k ∙ sym (digit_sum_nil v k); decoded = rw (levels_nil v) no_run }
cut v (o ∷ s) =
    let c = cut v s in
    by_order o v
    (λ h. record { ds = []; tail = o ∷ s; whole = refl; digits = no_digit; sum = λ k. sum_from_nil v k ∙ sym (digit_sum_open v k o s h); decoded = opened v o s h c })
    (λ h. record {
      ds = o ∷ c.ds;
      tail = c.tail;
      whole = ap (λ (l : List ℕ). o ∷ l) c.whole;
      digits = digit h c.digits;
      sum = λ k. sum_from_cons v k o c.ds ∙ ap (λ (m : ℕ). (o - v - 1) * base v ^ k + m) (c.sum (k + 1)) ∙ sym (digit_sum_digit v k o s h);
      decoded = rw (levels_digit v o s h) c.decoded;
    })

pub levels_decode : (v : ℕ) (s : List ℕ) → opens v s ≡ true → Decodes v s (levels v s)
levels_decode v [] e = rw (levels_nil v) no_run
levels_decode v (o ∷ s) e = opened v o s (leb-true o v e) (cut v s)

-- ---- exactly n of them
pub gives_exactly : (v n : ℕ) (s : List ℕ) → gives v n s ≡ true → Exactly v n s
gives_exactly v n s e =
    let g = gives_true v n s e in
    record { row = levels v s; decodes = levels_decode v s g.0; count = g.1 }

pub exactly_gives : (v n : ℕ) (s : List ℕ) → Exactly v n s → gives v n s ≡ true
unfolding gives
exactly_gives v n s x =
    let d = decodes_levels x.decodes in
    simp (d.0, eq-eqb (length (levels v s)) n (ap length (sym d.1) ∙ x.count))
