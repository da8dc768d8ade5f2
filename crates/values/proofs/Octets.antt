-- Section 5's table: two octets write a value exactly when the number that they write is its sign and magnitude, and a table is right
-- from a place on when that pair is and the rest is.
use mathlib.Core.Path.{◌≡◌, refl, ◌∙◌, ap, sym}
use mathlib.Core.Bool.{Bool, true, false, false≢true, ◌&&◌, cond}
use mathlib.Core.List.{List, [], ◌∷◌}
use Prim.Native.Nat.{ℕ, zero, suc, ◌+◌, ◌*◌, ◌/◌, ◌%◌, ◌≤◌, ◌<◌}
use native.Mathlib.Numerals.{add-one}
use native.Mathlib.Omega.{arith}
use lib.Dec.{eqb, ltb}
use lib.IntN.{ℤ, pos}
use lib.ListN.{length, get_or, take, drop, drop_of_length-le}
use lib.Seq.{drop-cons, get_or-drop}
use borrow.Author.Tests.{eq-eqb, ne_eqb, eqb-true, eqb-false, ltb-true}
use Rattle.octets.specs.Octets.{same}
use Rattle.octets.proofs.Same.{same_eq, same_refl}
use Rattle.values.specs.Published.{table_of}
use Rattle.values.specs.Table.{sign_magnitude, octets_of, table_octets, table_right}
use Rattle.values.specs.Inner.{pair_right}
use Rattle.values.specs.Inner.{InTwoOctets}
use Rattle.values.specs.declared.Product.{Product}
use Rattle.values.specs.declared.Product.TheVariants.{Reflectivity, Velocity}

-- ---- a pair of octets
-- the number's digits in base 256, the first octet least on both sides
digits : (h l n : ℕ) → h < 256 → l < 256 → n < 65536 → eqb (h + l * 256) (n % 256 * 256 + n / 256) ≡ eqb h (n / 256) && eqb l (n % 256)
digits h l n g k few = go (eqb h (n / 256)) refl (eqb l (n % 256)) refl
  where
    go : (a : Bool) → eqb h (n / 256) ≡ a → (b : Bool) → eqb l (n % 256) ≡ b → eqb (h + l * 256) (n % 256 * 256 + n / 256) ≡ a && b
    go true e true f = let x = eqb-true h (n / 256) e in let y = eqb-true l (n % 256) f in eq-eqb (h + l * 256) (n % 256 * 256 + n / 256) (omega arith)
    go true e false f = let x = eqb-true h (n / 256) e in let y = eqb-false l (n % 256) f in ne_eqb (h + l * 256) (n % 256 * 256 + n / 256) (λ z. y (omega arith))
    go false e b f = let x = eqb-false h (n / 256) e in ne_eqb (h + l * 256) (n % 256 * 256 + n / 256) (λ z. x (omega arith))

pub pair_is : (h l : ℕ) (z : ℤ) (n : ℕ) → n ≡ sign_magnitude z → n < 65536 → h < 256 → l < 256 → eqb (h + l * 256) (n % 256 * 256 + n / 256) ≡ pair_right h l z
unfolding pair_right
pair_is h l z n e few g k = digits h l n g k few ∙ ap (λ (m : ℕ). eqb h (m / 256) && eqb l (m % 256)) e

-- ---- lists of octets
pub octets_length : (zs : List ℤ) → length (octets_of zs) ≡ 2 * length zs
unfolding octets_of
octets_length [] = refl
octets_length (z ∷ zs) = let e = octets_length zs in omega arith

-- octets of another number are not right
pub unlike_length : (xs : List ℕ) (zs : List ℤ) → (length xs ≡ 2 * length zs → ⊥) → same xs (octets_of zs) ≡ false
unlike_length xs zs n = go (same xs (octets_of zs)) refl
  where
    go : (b : Bool) → same xs (octets_of zs) ≡ b → b ≡ false
    go true e = absurd (n (ap length (same_eq xs (octets_of zs) e) ∙ octets_length zs))
    go false e = refl

and_assoc : (a b c : Bool) → a && (b && c) ≡ (a && b) && c
and_assoc true b c = refl
and_assoc false b c = refl

-- a pair and the rest
pair_rest : (xs : List ℕ) (zs : List ℤ) (h l : ℕ) (z : ℤ) → same (h ∷ l ∷ xs) (octets_of (z ∷ zs)) ≡ pair_right h l z && same xs (octets_of zs)
unfolding same octets_of pair_right
pair_rest xs zs h l z = and_assoc (eqb h (sign_magnitude z / 256)) (eqb l (sign_magnitude z % 256)) (same xs (octets_of zs))

next_pair : (xs : List ℕ) (zs : List ℤ) (i : ℕ) → i < length zs → length xs ≡ 2 * length zs
    → same (drop (2 * i) xs) (octets_of (drop i zs))
    ≡ pair_right (get_or xs (2 * i) 0) (get_or xs (2 * i + 1) 0) (get_or zs i (pos 0)) && same (drop (2 * (i + 1)) xs) (octets_of (drop (i + 1) zs))
next_pair xs zs i h e =
    ap (λ ys. same ys (octets_of (drop i zs))) (drop-cons xs (2 * i) 0 (omega arith) ∙ ap (λ ys. get_or xs (2 * i) 0 ∷ ys) (drop-cons xs (suc (2 * i)) 0 (omega arith)))
    ∙ ap (λ ws. same (get_or xs (2 * i) 0 ∷ get_or xs (suc (2 * i)) 0 ∷ drop (suc (suc (2 * i))) xs) (octets_of ws)) (drop-cons zs i (pos 0) h)
    ∙ pair_rest (drop (suc (suc (2 * i))) xs) (drop (suc i) zs) (get_or xs (2 * i) 0) (get_or xs (suc (2 * i)) 0) (get_or zs i (pos 0))
    ∙ ap (λ (k : ℕ). pair_right (get_or xs (2 * i) 0) (get_or xs k 0) (get_or zs i (pos 0)) && same (drop (suc (suc (2 * i))) xs) (octets_of (drop (suc i) zs))) (sym (add-one (2 * i)))
    ∙ ap (λ (k : ℕ). pair_right (get_or xs (2 * i) 0) (get_or xs (2 * i + 1) 0) (get_or zs i (pos 0)) && same (drop k xs) (octets_of (drop (suc i) zs))) (twice i)
    ∙ ap (λ (k : ℕ). pair_right (get_or xs (2 * i) 0) (get_or xs (2 * i + 1) 0) (get_or zs i (pos 0)) && same (drop (2 * (i + 1)) xs) (octets_of (drop k zs))) (sym (add-one i))
  where
    twice : (i : ℕ) → suc (suc (2 * i)) ≡ 2 * (i + 1)
    twice i = omega arith

-- with the pairs passed all right or not, the whole is what one more pair and the rest make it
pub with_pair : (xs : List ℕ) (zs : List ℤ) (i : ℕ) (so_far pair : Bool) → i < length zs → length xs ≡ 2 * length zs
    → pair ≡ pair_right (get_or xs (2 * i) 0) (get_or xs (2 * i + 1) 0) (get_or zs i (pos 0))
    → so_far && same (drop (2 * i) xs) (octets_of (drop i zs)) ≡ (so_far && pair) && same (drop (2 * (i + 1)) xs) (octets_of (drop (i + 1) zs))
with_pair xs zs i so_far pair h e f =
    ap (λ (b : Bool). so_far && b) (next_pair xs zs i h e ∙ ap (λ (b : Bool). b && same (drop (2 * (i + 1)) xs) (octets_of (drop (i + 1) zs))) (sym f))
    ∙ and_assoc so_far pair (same (drop (2 * (i + 1)) xs) (octets_of (drop (i + 1) zs)))

pub no_pair : (xs : List ℕ) (zs : List ℤ) (i : ℕ) → length zs ≤ i → length xs ≡ 2 * length zs → same (drop (2 * i) xs) (octets_of (drop i zs)) ≡ true
unfolding same octets_of
no_pair xs zs i h e =
    ap (λ ys. same ys (octets_of (drop i zs))) (drop_of_length-le xs {i = 2 * i} (omega arith)) ∙ ap (λ ws. same [] (octets_of ws)) (drop_of_length-le zs h)

-- ---- in two parts, of n octets and k values first
pub in_parts : (k n : ℕ) (xs : List ℕ) (zs : List ℤ) → n ≡ 2 * k → n ≤ length xs → k ≤ length zs
    → same xs (octets_of zs) ≡ same (take n xs) (octets_of (take k zs)) && same (drop n xs) (octets_of (drop k zs))
unfolding same octets_of
in_parts zero zero xs zs e h g = refl
in_parts zero (suc n) xs zs e h g = absurd (omega arith)
in_parts (suc k) zero xs zs e h g = absurd (omega arith)
in_parts (suc k) (suc zero) xs zs e h g = absurd (omega arith)
in_parts (suc k) (suc (suc n)) [] zs e h g = absurd (omega arith)
in_parts (suc k) (suc (suc n)) (h ∷ []) zs e i g = absurd (omega arith)
in_parts (suc k) (suc (suc n)) (h ∷ l ∷ xs) [] e i g = absurd (omega arith)
in_parts (suc k) (suc (suc n)) (h ∷ l ∷ xs) (z ∷ zs) e i g =
    pair_rest xs zs h l z
    ∙ ap (λ (b : Bool). pair_right h l z && b) (in_parts k n xs zs (omega arith) (omega arith) (omega arith))
    ∙ and_assoc (pair_right h l z) (same (take n xs) (octets_of (take k zs))) (same (drop n xs) (octets_of (drop k zs)))
    ∙ ap (λ (b : Bool). b && same (drop n xs) (octets_of (drop k zs))) (sym (pair_rest (take n xs) (take k zs) h l z))

pub writable_front : (n : ℕ) (zs : List ℤ) → InTwoOctets zs → InTwoOctets (take n zs)
unfolding sign_magnitude
writable_front zero zs w k = omega arith
writable_front (suc n) [] w k = omega arith
writable_front (suc n) (z ∷ zs) w zero = w 0
writable_front (suc n) (z ∷ zs) w (suc k) = writable_front n zs (λ j. w (suc j)) k

pub writable_back : (n : ℕ) (zs : List ℤ) → InTwoOctets zs → InTwoOctets (drop n zs)
writable_back n zs w k = rw (get_or-drop n zs k (pos 0)) (w (n + k))

-- ---- every published value has a form in 16 bits: computed over each table
abbrev writable_all : List ℤ → Bool
writable_all [] = true
writable_all (z ∷ zs) = cond (ltb (sign_magnitude z) 65536) (writable_all zs) false

writable : (zs : List ℤ) → writable_all zs ≡ true → InTwoOctets zs
unfolding sign_magnitude
writable [] e k = omega arith
writable (z ∷ zs) e k = go (ltb (sign_magnitude z) 65536) refl e (writable zs) k
  where
    go : (b : Bool) → ltb (sign_magnitude z) 65536 ≡ b → cond b (writable_all zs) false ≡ true → (writable_all zs ≡ true → InTwoOctets zs) → InTwoOctets (z ∷ zs)
    go true h f rest zero = ltb-true (sign_magnitude z) 65536 h
    go true h f rest (suc j) = rest f j
    go false h f rest j = absurd (false≢true f)

pub tables_writable : (p : Product) → InTwoOctets (table_of p)
unfolding table_of sign_magnitude
tables_writable Reflectivity = writable (table_of Reflectivity) refl
tables_writable Velocity = writable (table_of Velocity) refl

-- ---- what the test means
-- THE MEANING: the table is right exactly when the octets are the table's, octet for octet
pub table_right_lem : (octets : List ℕ) (p : Product) → table_right octets p ≡ true → octets ≡ table_octets p
unfolding table_right
table_right_lem octets p e = same_eq octets (table_octets p) e

pub right_table : (octets : List ℕ) (p : Product) → octets ≡ table_octets p → table_right octets p ≡ true
unfolding table_right
right_table octets p e = ap (λ xs. same xs (table_octets p)) e ∙ same_refl (table_octets p)
