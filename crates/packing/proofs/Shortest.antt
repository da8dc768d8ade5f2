-- Octets are never fewer than those that the writer writes for the levels that they give, whatever V they are read under. The idea: for the bins of one level that were given so far the writer's digits are
-- never more than the octets spent on them, the first left out. A digit more makes what can have been given B times as much, a further run of the level makes it less than that, and a greater V has a lesser B.
use Prim.Native.Nat.{ℕ, zero, suc, ◌+◌, ◌-◌, ◌*◌, ◌/◌, ◌%◌, ◌^◌, ◌≤◌, ◌<◌}
use mathlib.Core.Path.{◌≡◌, refl, ap, ◌∙◌}
use mathlib.Core.List.{List, [], ◌∷◌, ◌++◌}
use native.Mathlib.Nat.{mod-lt, div-lt_iff_lt-mul, pow-zero, pow-suc, pow-le-pow_left, mul-le-mul, le-mul_of_pos_right, mul_comm, add-mul, suc-mul, zero-mul}
use native.Mathlib.Numerals.{add-one, one-add}
use native.Mathlib.Omega.{arith}
use lib.ListN.{length, get_or, replicate, length-append, length-replicate}
use Rattle.runs.specs.Run.{base, digit_sum, levels}
use Rattle.octets.proofs.Orders.{by_order}
use Rattle.runs.proofs.Bins.{digit_sum_nil, digit_sum_open, digit_sum_digit, levels_nil, levels_open, levels_digit}
use Rattle.runs.proofs.Here.{append_le, levels_le}
use Rattle.packing.specs.Write.{greatest, digits_up_to, digits_of, code, on_from, written, packed}
use Rattle.packing.proofs.Digits.{alike, up_more, octets_of, code_is, digits_zero, digits_more, code_length, greatest_cons, greatest_nil, on_from_nil, on_from_same, on_from_other, written_cons, written_nil, written_short}

-- ---- the writer's side
-- what no level is over, the greatest is not
pub greatest_le : (v : ℕ) (s : List ℕ) → ((k : ℕ) → get_or s k 0 ≤ v) → greatest s ≤ v
greatest_le v [] h = omega (arith, greatest_nil)
greatest_le v (x ∷ s) h = omega (arith, greatest_cons x s, h 0, greatest_le v s (λ k. h (suc k)))

-- a number below b^a has at most a digits
few_digits : (b : ℕ) → 2 ≤ b → (a m : ℕ) → m < b ^ a → length (digits_of b m) ≤ a
few_digits b two zero m h =
    let z : m ≡ 0 = omega (arith, pow-zero b) in
    rw z (omega (arith, ap length (digits_zero b)))
few_digits b two (suc a) m h =
    by_order m 0
    (λ g. let z : m ≡ 0 = omega arith in rw z (omega (arith, ap length (digits_zero b))))
    (λ g.
    let less : m < b ^ a * b = omega (arith, pow-suc b a) in
    omega (arith, ap length (digits_more b m two g), few_digits b two a (m / b) ((div-lt_iff_lt-mul {k = b} {x = m} {y = b ^ a} (omega arith)).1 less)))

-- a run goes on over as many more of its level
on_many : (v x n k : ℕ) (s : List ℕ) → on_from v x k (replicate n x ++ s) ≡ on_from v x (k + n) s
on_many v x zero k s = let z : k ≡ k + 0 = omega arith in ap (λ (n : ℕ). on_from v x n s) z
on_many v x (suc n) k s =
    let z : k + 1 + n ≡ k + suc n = omega arith in
    on_from_same v x k x (replicate n x ++ s) refl ∙ on_many v x n (k + 1) s ∙ ap (λ (n : ℕ). on_from v x n s) z

-- the levels of a run and what follows, the first of them apart
levels_first : (v o : ℕ) (t : List ℕ) → o ≤ v → levels v (o ∷ t) ≡ o ∷ (replicate (digit_sum v 0 t) o ++ levels v t)
levels_first v o t h = levels_open v o t h ∙ ap (λ (m : ℕ). replicate m o ++ levels v t) (one-add (digit_sum v 0 t))

-- octets
abbrev Small : List ℕ → Type 0
Small t = (i : ℕ) → get_or t i 0 < 256

-- ---- under a V of 253 and less: v is that of the octets, g the writer's
module _ {g v : ℕ} (under : g ≤ v) (low : v ≤ 253) where
  abbrev B : ℕ
  B = base v

  next : (a : ℕ) → B ^ (a + 1) ≡ B ^ a * B
  next a = ap (λ (m : ℕ). B ^ m) (add-one a) ∙ pow-suc B a

  code_fits : (x k a : ℕ) → k + 1 ≤ B ^ a → length (code g x k) ≤ a + 1
  code_fits x k a h =
      omega (arith, code_length g x k, few_digits (base g) (omega arith) a k (omega (arith, pow-le-pow_left {n = B} {m = base g} (omega arith) a)))

  -- Of a run that is k + 1 long so far, in a + 1 octets, m bins stand in runs that have ended, and the next digit is that of B^e. A digit d then:
  module _ (k m e a d : ℕ) (run : k + 1 ≤ m + B ^ e) (all : m + B ^ e ≤ B ^ a) (digit : d + 1 ≤ B) where
    digit_run : k + d * B ^ e + 1 ≤ m + B ^ (e + 1)
    digit_run = omega (arith, next e, mul_comm (B ^ e) B, mul-le-mul {n₁ = suc d} {m₁ = B ^ e} {n₂ = B} {m₂ = B ^ e} (omega arith) (omega arith), suc-mul d (B ^ e))

    digit_all : m + B ^ (e + 1) ≤ B ^ (a + 1)
    digit_all =
        omega (
          arith,
          next e,
          next a,
          mul-le-mul {n₁ = m + B ^ e} {m₁ = B} {n₂ = B ^ a} {m₂ = B} all (omega arith),
          add-mul m (B ^ e) B,
          le-mul_of_pos_right {m = B} m (omega arith),
        )

  -- a level as before: one more bin fits behind an octet more
  one_more : (k a : ℕ) → k + 1 ≤ B ^ a → k + 1 + 1 ≤ B ^ (a + 1)
  one_more k a h = omega (arith, next a, mul-le-mul {n₁ = B ^ a} {m₁ = 2} {n₂ = B ^ a} {m₂ = B} (omega arith) (omega arith))

  on_short : (t : List ℕ) → Small t → (l k m e a : ℕ) → k + 1 ≤ m + B ^ e → m + B ^ e ≤ B ^ a → length (on_from g l (k + digit_sum v e t) (levels v t)) ≤ a + 1 + length t
  on_short [] small l k m e a run all =
      let none : k + digit_sum v e [] ≡ k = omega (arith, digit_sum_nil v e) in
      omega (arith, ap length ((λ i. on_from g l (none i) (levels_nil v i)) ∙ on_from_nil g l k), code_fits l k a (omega arith))
  on_short (o ∷ t) small l k m e a run all =
      by_order o v
      (λ h.
      let n : ℕ = digit_sum v 0 t in
      let none : k + digit_sum v e (o ∷ t) ≡ k = omega (arith, digit_sum_open v e o t h) in
      let here : on_from g l (k + digit_sum v e (o ∷ t)) (levels v (o ∷ t)) ≡ on_from g l k (o ∷ (replicate n o ++ levels v t)) = λ i. on_from g l (none i) (levels_first v o t h i) in
      alike o l
      (λ same.
      omega (
        arith,
        ap length (here ∙ on_from_same g l k o (replicate n o ++ levels v t) same ∙ ap (λ (x : ℕ). on_from g l (k + 1) (replicate n x ++ levels v t)) same ∙ on_many g l n (k + 1) (levels v t)),
        on_short t (λ i. small (suc i)) l (k + 1) (k + 1) 0 (a + 1) (omega (arith, pow-zero B)) (omega (arith, pow-zero B, one_more k a (omega arith))),
      ))
      (λ other.
      omega (
        arith,
        ap length (here ∙ on_from_other g l k o (replicate n o ++ levels v t) other ∙ ap (λ (r : List ℕ). code g l k ++ r) (on_many g o n 0 (levels v t))),
        length-append (code g l k) (on_from g o (0 + n) (levels v t)),
        code_fits l k a (omega arith),
        on_short t (λ i. small (suc i)) o 0 0 0 0 (omega (arith, pow-zero B)) (omega (arith, pow-zero B)),
      )))
      (λ h.
      let d : ℕ = o - v - 1 in
      let digit : d + 1 ≤ B = omega (arith, small 0) in
      let more : k + digit_sum v e (o ∷ t) ≡ k + d * B ^ e + digit_sum v (e + 1) t = omega (arith, digit_sum_digit v e o t h) in
      omega (
        arith,
        ap length (λ i. on_from g l (more i) (levels_digit v o t h i)),
        on_short t (λ i. small (suc i)) l (k + d * B ^ e) m (e + 1) (a + 1) (digit_run k m e a d run all digit) (digit_all k m e a d run all digit),
      ))

  written_least : (t : List ℕ) → Small t → length (written g (levels v t)) ≤ length t
  written_least [] small = omega (arith, ap length (ap (written g) (levels_nil v) ∙ written_nil g))
  written_least (o ∷ t) small =
      by_order o v
      (λ h.
      let n : ℕ = digit_sum v 0 t in
      omega (
        arith,
        ap length (ap (written g) (levels_first v o t h) ∙ written_cons g o (replicate n o ++ levels v t) ∙ on_many g o n 0 (levels v t)),
        on_short t (λ i. small (suc i)) o 0 0 0 0 (omega (arith, pow-zero B)) (omega (arith, pow-zero B)),
      ))
      (λ h. omega (arith, ap length (ap (written g) (levels_digit v o t h)), written_least t (λ i. small (suc i))))

-- ---- under a V of 254 and more, which no reader takes, a digit can only be 0: octets give no more levels than they are
module _ (v : ℕ) (high : 253 < v) where
  no_sum : (t : List ℕ) → Small t → (k : ℕ) → digit_sum v k t ≡ 0
  no_sum [] small k = digit_sum_nil v k
  no_sum (o ∷ t) small k =
      by_order o v
      (λ h. digit_sum_open v k o t h)
      (λ h.
      let d : o - v - 1 ≡ 0 = omega (arith, small 0) in
      omega (arith, digit_sum_digit v k o t h, ap (λ (x : ℕ). x * base v ^ k) d, zero-mul (base v ^ k), no_sum t (λ i. small (suc i)) (k + 1)))

  few_levels : (t : List ℕ) → Small t → length (levels v t) ≤ length t
  few_levels [] small = omega (arith, ap length (levels_nil v))
  few_levels (o ∷ t) small =
      let rest = few_levels t (λ i. small (suc i)) in
      by_order o v
      (λ h.
      let n : ℕ = 1 + digit_sum v 0 t in
      omega (arith, ap length (levels_open v o t h), length-append (replicate n o) (levels v t), length-replicate n o, no_sum t (λ i. small (suc i)) 0))
      (λ h. omega (arith, ap length (levels_digit v o t h)))

pub shortest : (v : ℕ) (t : List ℕ) → ((i : ℕ) → get_or t i 0 < 256) → length (packed (levels v t)) ≤ length t
shortest v t small =
    by_order v 253
    (λ h. written_least (greatest_le v (levels v t) (levels_le v t)) h t small)
    (λ h. omega (arith, written_short (greatest (levels v t)) (levels v t), few_levels v h t small))

-- ---- and what is written is octets: under a V of 252 and less no digit's octet is over 255
first_le : (b x : ℕ) (l : List ℕ) → x ≤ b → ((i : ℕ) → get_or l i 0 ≤ b) → (i : ℕ) → get_or (x ∷ l) i 0 ≤ b
first_le b x l h rest zero = h
first_le b x l h rest (suc i) = rest i

module _ (v : ℕ) (low : v ≤ 252) where
  digits_le : (f m i : ℕ) → get_or (octets_of v (digits_up_to f (base v) m)) i 0 ≤ 255
  unfolding octets_of digits_up_to
  digits_le zero m i = omega arith
  digits_le (suc f) m i =
      by_order m 0
      (λ g. let z : m ≡ 0 = omega arith in rw z (omega arith))
      (λ g.
      rw (up_more f (base v) m g)
      (first_le 255 (v + 1 + m % base v) (octets_of v (digits_up_to f (base v) (m / base v))) (omega (arith, mod-lt m {m = base v} (omega arith))) (λ j. digits_le f (m / base v) j) i))

  code_le : (x k : ℕ) → x ≤ v → (i : ℕ) → get_or (code v x k) i 0 ≤ 255
  unfolding digits_of
  code_le x k h i = rw (code_is v x k) (first_le 255 x (octets_of v (digits_of (base v) k)) (omega arith) (λ j. digits_le k k j) i)

  on_from_le : (s : List ℕ) → greatest s ≤ v → (x k : ℕ) → x ≤ v → (i : ℕ) → get_or (on_from v x k s) i 0 ≤ 255
  on_from_le [] hs x k hx i = rw (on_from_nil v x k) (code_le x k hx i)
  on_from_le (y ∷ s) hs x k hx i =
      let rest : greatest s ≤ v = omega (arith, greatest_cons y s) in
      alike y x
      (λ e. rw (on_from_same v x k y s e) (on_from_le s rest x (k + 1) hx i))
      (λ e. rw (on_from_other v x k y s e) (append_le 255 (code v x k) (on_from v y 0 s) (code_le x k hx) (on_from_le s rest y 0 (omega (arith, greatest_cons y s))) i))

  pub written_le : (s : List ℕ) → greatest s ≤ v → (i : ℕ) → get_or (written v s) i 0 ≤ 255
  written_le [] h i = rw (written_nil v) (omega arith)
  written_le (x ∷ s) h i = rw (written_cons v x s) (on_from_le s (omega (arith, greatest_cons x s)) x 0 (omega (arith, greatest_cons x s)) i)
