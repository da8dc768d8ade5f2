-- What a level tells: level 0 no number, any other its published value, which the float of its hundredths is near; and section 5's
-- octets of a level, read as sign and magnitude, are that value again.
use mathlib.Core.Path.{◌≡◌, refl, ◌∙◌, ap}
use mathlib.Core.List.{List, [], ◌∷◌}
use Prim.Native.Nat.{ℕ, zero, suc, ◌+◌, ◌-◌, ◌*◌, ◌/◌, ◌%◌, ◌^◌, ◌≤◌, ◌<◌}
use native.Mathlib.Nat.{le_of_suc-le-suc, not-suc-le-zero}
use native.Mathlib.Omega.{arith}
use borrow.Author.Tests.{ne_eqb, lt-ltb, le-ltb}
use lib.IntN.{ℤ, pos, negsuc, neg_ℤ, nat_abs}
use lib.Signed.{mag}
use lib.ListN.{length, get_or}
use mathlib.Core.Bool.{Bool, cond}
use Rattle.fraction.specs.Near.{NearZ}
use Rattle.fraction.specs.Quotient.{hundredths}
use Rattle.fraction.proofs.Hundredths.{hundredths_near}
use Rattle.octets.specs.Octets.{be, signed}
use Rattle.octets.proofs.Laws.{be_one, be_split}
use Rattle.values.specs.Published.{level_count, published, table_of}
use Rattle.values.specs.Reading.{reading_of}
use Rattle.values.specs.Table.{sign_magnitude, octets_of, table_octets}
use Rattle.values.proofs.Published.{table_length, table_at, published_small}
use Rattle.values.specs.declared.Product.{Product}
use Rattle.values.specs.declared.Reading.TheVariants.{Missing, Number}

-- level 0 never gets a number, and each level above it gets its published value
pub no_number : (p : Product) → reading_of p 0 ≡ Missing
unfolding reading_of
no_number p = refl

pub its_number : (p : Product) (l : ℕ) → 1 ≤ l → reading_of p l ≡ Number (published p l)
unfolding reading_of
its_number p l h = simp (ne_eqb l 0 (λ (e : l ≡ 0). omega arith))

-- ---- as a float
abs_le : (z : ℤ) (m : ℕ) → mag z < m → nat_abs z ≤ m
abs_le (pos n) m h = omega arith
abs_le (negsuc k) m h = omega arith

pub published_near : (p : Product) (n : ℕ) → 1 ≤ n → n ≤ level_count p → NearZ 53 (hundredths (published p n)) (published p n) 100
published_near p n h k = hundredths_near (published p n) (low (nat_abs (published p n)) (abs_le (published p n) (2 ^ 15) (published_small p n h k)))
  where
    low : (x : ℕ) → x ≤ 2 ^ 15 → x ≤ 2 ^ 53
    low x h = omega arith

-- ---- in section 5
-- sign and magnitude, read back
signed_back : (z : ℤ) → mag z < 2 ^ 15 → signed 2 (sign_magnitude z) ≡ z
unfolding signed sign_magnitude
signed_back (pos n) h = ap (λ (b : Bool). cond b (pos n) (neg_ℤ (pos (n - 32768)))) (lt-ltb n 32768 h)
signed_back (negsuc k) h =
    ap (λ (b : Bool). cond b (pos (32768 + suc k)) (neg_ℤ (pos (32768 + suc k - 32768)))) (le-ltb (32768 + suc k) 32768 (over k))
    ∙ ap (λ (m : ℕ). neg_ℤ (pos m)) (less k)
  where
    over : (k : ℕ) → 32768 ≤ 32768 + suc k
    over k = omega arith

    less : (k : ℕ) → 32768 + suc k - 32768 ≡ suc k
    less k = omega arith

-- two octets from place 2i on write the i-th value
pair_at : (zs : List ℤ) (i : ℕ) → i < length zs
    → (get_or (octets_of zs) (2 * i) 0 ≡ sign_magnitude (get_or zs i (pos 0)) / 256) × (get_or (octets_of zs) (2 * i + 1) 0 ≡ sign_magnitude (get_or zs i (pos 0)) % 256)
unfolding octets_of
pair_at [] i h = absurd (not-suc-le-zero h)
pair_at (z ∷ zs) zero h = (refl, refl)
pair_at (z ∷ zs) (suc i) h =
    let r = pair_at zs i (le_of_suc-le-suc h) in
    let e : 2 * suc i ≡ suc (suc (2 * i)) = omega arith in
    let f : 2 * suc i + 1 ≡ suc (suc (2 * i + 1)) = omega arith in
    (ap (λ (k : ℕ). get_or (octets_of (z ∷ zs)) k 0) e ∙ r.0, ap (λ (k : ℕ). get_or (octets_of (z ∷ zs)) k 0) f ∙ r.1)

pair_number : (zs : List ℤ) (i : ℕ) → i < length zs → be (octets_of zs) (2 * i) 2 ≡ sign_magnitude (get_or zs i (pos 0))
pair_number zs i h =
    let r = pair_at zs i h in
    omega (arith, be_split (octets_of zs) (2 * i) 1 1, be_one (octets_of zs) (2 * i), be_one (octets_of zs) (2 * i + 1))

-- level n's value stands at places 2(n - 1) and 2(n - 1) + 1 of the table, octets 16+2n and 17+2n of section 5
pub table_reads : (p : Product) (n : ℕ) → 1 ≤ n → n ≤ level_count p → signed 2 (be (table_octets p) (2 * (n - 1)) 2) ≡ published p n
unfolding table_octets
table_reads p n h k =
    ap (signed 2) (pair_number (table_of p) (n - 1) (inside n (level_count p) (length (table_of p)) (table_length p) h k) ∙ ap sign_magnitude (table_at p n h k))
    ∙ signed_back (published p n) (published_small p n h k)
  where
    inside : (n m l : ℕ) → l ≡ m → 1 ≤ n → n ≤ m → n - 1 < l
    inside n m l e h k = omega arith
