-- A number in decimal: a digit alone, or the digits of n / 10 and the last one; at most twenty digits for a number of 64 bits.
use Prim.Native.Nat.{ℕ, zero, suc, ◌+◌, ◌/◌, ◌%◌, ◌^◌, ◌≤◌, ◌<◌}
use mathlib.Core.Path.{◌≡◌, sym, ap, ◌∙◌}
use mathlib.Core.List.{List, [], ◌∷◌, ◌++◌}
use native.Mathlib.Nat.{div-lt_self, div-lt_iff_lt-mul, pow-suc}
use native.Mathlib.Omega.{arith}
use borrow.Author.Tests.{lt-ltb, le-ltb}
use lib.ListN.{length, length-append}
use Rattle.octets.proofs.Orders.{by_order}
use Rattle.lines.specs.Text.{digit, spelled, decimal}

spelled_one : (f n : ℕ) → n < 10 → spelled (suc f) n ≡ digit n ∷ []
unfolding spelled
spelled_one f n h = simp (lt-ltb n 10 h)

spelled_more : (f n : ℕ) → 10 ≤ n → spelled (suc f) n ≡ spelled f (n / 10) ++ (digit (n % 10) ∷ [])
unfolding spelled
spelled_more f n h = simp (le-ltb n 10 h)

-- whatever the first argument, if it is enough
enough : (f g n : ℕ) → n < f → n < g → spelled f n ≡ spelled g n
enough zero g n h k = absurd (omega arith)
enough (suc f) zero n h k = absurd (omega arith)
enough (suc f) (suc g) n h k =
    by_order 10 n
    (λ more.
    let less : n / 10 < n = div-lt_self (omega arith) (omega arith) in
    spelled_more f n more ∙ ap (λ (l : List ℕ). l ++ (digit (n % 10) ∷ [])) (enough f g (n / 10) (omega arith) (omega arith)) ∙ sym (spelled_more g n more))
    (λ one. spelled_one f n one ∙ sym (spelled_one g n one))

pub decimal_one : (n : ℕ) → n < 10 → decimal n ≡ digit n ∷ []
unfolding decimal
decimal_one n h = spelled_one n n h

pub decimal_more : (n : ℕ) → 10 ≤ n → decimal n ≡ decimal (n / 10) ++ (digit (n % 10) ∷ [])
unfolding decimal
decimal_more n h =
    let less : n / 10 < n = div-lt_self (omega arith) (omega arith) in
    spelled_more n n h ∙ ap (λ (l : List ℕ). l ++ (digit (n % 10) ∷ [])) (enough n (suc (n / 10)) (n / 10) less (omega arith))

pub decimal_longer : (n : ℕ) → 10 ≤ n → length (decimal n) ≡ length (decimal (n / 10)) + 1
decimal_longer n h = ap length (decimal_more n h) ∙ length-append (decimal (n / 10)) (digit (n % 10) ∷ [])

pub decimal_some : (n : ℕ) → 0 < length (decimal n)
decimal_some n =
    by_order 10 n (λ more. omega (arith, decimal_longer n more))
    (λ one. omega (arith, ap length (decimal_one n one)))

-- a number below 10 ^ k has at most k digits, and one at least
short : (k n : ℕ) → n < 10 ^ suc k → length (decimal n) ≤ suc k
short zero n h = omega (arith, ap length (decimal_one n h))
short (suc k) n h =
    by_order 10 n
    (λ more.
    let below : n / 10 < 10 ^ suc k = (div-lt_iff_lt-mul {k = 10} {x = n} {y = 10 ^ suc k} (omega arith)).1 (rw (← pow-suc 10 (suc k)) h) in
    omega (arith, short k (n / 10) below, decimal_longer n more))
    (λ one. omega (arith, ap length (decimal_one n one)))

pub twenty : (n : ℕ) → n < 2 ^ 64 → length (decimal n) ≤ 20
twenty n h = short 19 n (omega arith)
