-- What the writer writes reads back as the same levels: a run's digits add up to what they were taken from.
use Prim.Native.Nat.{ℕ, zero, suc, ◌+◌, ◌-◌, ◌*◌, ◌/◌, ◌%◌, ◌≤◌, ◌<◌}
use mathlib.Core.Path.{◌≡◌, refl, sym, ap, ◌∙◌}
use mathlib.Core.Bool.{true}
use mathlib.Core.List.{List, [], ◌∷◌, ◌++◌, append-nil, append_assoc}
use native.Mathlib.Nat.{div-lt_self, mod-add-div', add-mul, mul_assoc, mul_comm, mul-one, zero-mul}
use native.Mathlib.Omega.{arith}
use lib.ListN.{length, replicate, replicate-append-replicate}
use lib.Dec.{leb}
use borrow.Author.Tests.{le-leb, leb-true, eq-eqb}
use Rattle.runs.specs.Run.{base, digit_sum, levels, opens, gives}
use Rattle.packing.specs.Write.{greatest, digits_up_to, digits_of, code, on_from, written}
use Rattle.octets.proofs.Orders.{by_order}
use Rattle.runs.proofs.Bins.{levels_nil, levels_open, levels_digit}
use Rattle.runs.proofs.Steps.{dsum, dsum_nil, dsum_open, dsum_digit, digit_sum_is}
use Rattle.packing.proofs.Digits.{alike, octets_of, code_is, up_zero, up_more, on_from_nil, on_from_same, on_from_other, greatest_cons}

pub replicate_more : (m x : ℕ) (ys : List ℕ) → replicate m x ++ (x ∷ ys) ≡ replicate (m + 1) x ++ ys
replicate_more m x ys = sym (append_assoc (replicate m x) (x ∷ []) ys) ∙ ap (λ (l : List ℕ). l ++ ys) (replicate-append-replicate m 1 x)

-- where a level or the end comes next, no digit adds anything
dsum_opens : (v w : ℕ) (t : List ℕ) → opens v t ≡ true → dsum v w t ≡ 0
dsum_opens v w [] e = dsum_nil v w
dsum_opens v w (o ∷ t) e = dsum_open v w o t (leb-true o v e)

-- m % b and m / b, weighed
weighed : (m b w : ℕ) → (m % b) * w + (m / b) * (w * b) ≡ m * w
weighed m b w =
    ap (λ (x : ℕ). (m % b) * w + x) (ap (λ (x : ℕ). (m / b) * x) (mul_comm w b) ∙ sym (mul_assoc (m / b) b w))
    ∙ sym (add-mul (m % b) (m / b * b) w)
    ∙ ap (λ (x : ℕ). x * w) (mod-add-div' m b)

module _ (v : ℕ) (low : v ≤ 252) (t : List ℕ) (stop : opens v t ≡ true) where
  digits_sum : (f m w : ℕ) → m ≤ f → dsum v w (octets_of v (digits_up_to f (base v) m) ++ t) ≡ m * w
  unfolding octets_of
  digits_sum zero m w h =
      let z : m ≡ 0 = omega arith in
      rw z (ap (λ (l : List ℕ). dsum v w (octets_of v l ++ t)) (up_zero zero (base v)) ∙ dsum_opens v w t stop ∙ sym (zero-mul w))
  digits_sum (suc f) m w h =
      by_order m 0
      (λ g.
      let z : m ≡ 0 = omega arith in
      rw z (ap (λ (l : List ℕ). dsum v w (octets_of v l ++ t)) (up_zero (suc f) (base v)) ∙ dsum_opens v w t stop ∙ sym (zero-mul w)))
      (λ g.
      let less : m / base v < m = div-lt_self g (omega arith) in
      let o : ℕ = v + 1 + m % base v in
      let d : o - v - 1 ≡ m % base v = omega arith in
      ap (λ (l : List ℕ). dsum v w (octets_of v l ++ t)) (up_more f (base v) m g)
      ∙ dsum_digit v w o (octets_of v (digits_up_to f (base v) (m / base v)) ++ t) (omega arith)
      ∙ (λ i. d i * w + digits_sum f (m / base v) (w * base v) (omega arith) i)
      ∙ weighed m (base v) w)

  digits_levels : (ds : List ℕ) → levels v (octets_of v ds ++ t) ≡ levels v t
  unfolding octets_of
  digits_levels [] = refl
  digits_levels (d ∷ ds) = levels_digit v (v + 1 + d) (octets_of v ds ++ t) (omega arith) ∙ digits_levels ds

  code_levels : (x k : ℕ) → x ≤ v → levels v (code v x k ++ t) ≡ replicate (k + 1) x ++ levels v t
  unfolding digits_of
  code_levels x k h =
      let ds : List ℕ = octets_of v (digits_of (base v) k) in
      let sum : 1 + digit_sum v 0 (ds ++ t) ≡ k + 1 = omega (arith, digit_sum_is v (ds ++ t) ∙ digits_sum k k 1 (omega arith) ∙ mul-one k) in
      ap (λ (l : List ℕ). levels v (l ++ t)) (code_is v x k)
      ∙ levels_open v x (ds ++ t) h
      ∙ (λ i. replicate (sum i) x ++ digits_levels (digits_of (base v) k) i)

-- what is written on from a run of x opens with x
code_opens : (v x k : ℕ) (t : List ℕ) → opens v (code v x k ++ t) ≡ leb x v
unfolding code
code_opens v x k t = refl

on_from_opens : (v : ℕ) (s : List ℕ) (x k : ℕ) → opens v (on_from v x k s) ≡ leb x v
on_from_opens v [] x k = ap (λ (l : List ℕ). opens v l) (on_from_nil v x k ∙ sym (append-nil (code v x k))) ∙ code_opens v x k []
on_from_opens v (y ∷ s) x k =
    alike y x
    (λ e. ap (λ (l : List ℕ). opens v l) (on_from_same v x k y s e) ∙ on_from_opens v s x (k + 1))
    (λ e. ap (λ (l : List ℕ). opens v l) (on_from_other v x k y s e) ∙ code_opens v x k (on_from v y 0 s))

on_from_levels : (v : ℕ) → v ≤ 252 → (s : List ℕ) (x k : ℕ) → x ≤ v → greatest s ≤ v → levels v (on_from v x k s) ≡ replicate (k + 1) x ++ s
on_from_levels v low [] x k hx hs =
    ap (λ (l : List ℕ). levels v l) (on_from_nil v x k ∙ sym (append-nil (code v x k)))
    ∙ code_levels v low [] refl x k hx
    ∙ ap (λ (l : List ℕ). replicate (k + 1) x ++ l) (levels_nil v)
on_from_levels v low (y ∷ s) x k hx hs =
    let hy : y ≤ v = omega (arith, greatest_cons y s) in
    let hr : greatest s ≤ v = omega (arith, greatest_cons y s) in
    alike y x
    (λ e.
    ap (λ (l : List ℕ). levels v l) (on_from_same v x k y s e)
    ∙ on_from_levels v low s x (k + 1) hx hr
    ∙ sym (replicate_more (k + 1) x s)
    ∙ ap (λ (z : ℕ). replicate (k + 1) x ++ (z ∷ s)) (sym e))
    (λ e.
    ap (λ (l : List ℕ). levels v l) (on_from_other v x k y s e)
    ∙ code_levels v low (on_from v y 0 s) (on_from_opens v s y 0 ∙ le-leb y v hy) x k hx
    ∙ ap (λ (l : List ℕ). replicate (k + 1) x ++ l) (on_from_levels v low s y 0 hy hr))

-- the octets for a row of levels up to v give that row
pub written_levels : (v : ℕ) → v ≤ 252 → (s : List ℕ) → greatest s ≤ v → levels v (written v s) ≡ s
unfolding written
written_levels v low [] h = levels_nil v
written_levels v low (x ∷ s) h = on_from_levels v low s x 0 (omega (arith, greatest_cons x s)) (omega (arith, greatest_cons x s))

pub written_opens : (v : ℕ) (s : List ℕ) → greatest s ≤ v → opens v (written v s) ≡ true
unfolding written
written_opens v [] h = refl
written_opens v (x ∷ s) h = on_from_opens v s x 0 ∙ le-leb x v (omega (arith, greatest_cons x s))

-- read with that V they give exactly those levels
pub written_gives : (v : ℕ) → v ≤ 252 → (s : List ℕ) → greatest s ≤ v → gives v (length s) (written v s) ≡ true
unfolding gives
written_gives v low s h = simp (written_opens v s h, eq-eqb _ _ (ap length (written_levels v low s h)))
