-- The published tables: what stands at each place follows from the rule that lists them; that every value is small is one computed test.
use mathlib.Core.Path.{◌≡◌, refl, ◌∙◌, ap, subst, sym}
use mathlib.Core.Bool.{Bool, true, ◌&&◌}
use mathlib.Core.List.{List}
use Prim.Native.Nat.{ℕ, zero, suc, ◌+◌, ◌-◌, ◌^◌, ◌≤◌, ◌<◌}
use native.Mathlib.Nat.{add-zero, add-suc, suc-add, le_of_suc-le-suc, not-suc-le-zero}
use native.Mathlib.Omega.{arith}
use lib.Dec.{T, ltb, ltb→lt, lit≤}
use lib.IntN.{ℤ, pos}
use lib.Signed.{mag}
use lib.ListN.{length, get_or}
use lib.Ieee.Fits.{and_l, and_r}
use Rattle.values.specs.Published.{level_count, published, values_from, table_of}
use Rattle.values.proofs.Signed.{wide, wide_is}
use Rattle.values.specs.declared.Product.{Product}
use Rattle.values.specs.declared.Product.TheVariants.{Reflectivity, Velocity}

-- ---- any rule
pub values_from_length : (f : ℕ → ℤ) (i k : ℕ) → length (values_from f i k) ≡ k
unfolding values_from
values_from_length f i zero = refl
values_from_length f i (suc k) = ap suc (values_from_length f (suc i) k)

pub values_from_at : (f : ℕ → ℤ) (i k j : ℕ) → j < k → get_or (values_from f i k) j (pos 0) ≡ f (i + j)
unfolding values_from
values_from_at f i zero j h = absurd (not-suc-le-zero h)
values_from_at f i (suc k) zero h = ap f (sym (add-zero i))
values_from_at f i (suc k) (suc j) h = values_from_at f (suc i) k j (le_of_suc-le-suc h) ∙ ap f (suc-add i j ∙ sym (add-suc i j))

-- level n's place in a list of levels 1 to m
before : (n m : ℕ) → 1 ≤ n → n ≤ m → n - 1 < m
before n m h k = omega arith

back : (n : ℕ) → 1 ≤ n → 1 + (n - 1) ≡ n
back n h = omega arith

-- ---- a product's table
pub count_le : (p : Product) → level_count p ≤ 252
unfolding level_count
count_le Reflectivity = lit≤ tt
count_le Velocity = lit≤ tt

pub table_length : (p : Product) → length (table_of p) ≡ level_count p
unfolding table_of
table_length p = values_from_length (published p) 1 (level_count p)

-- level n stands at place n - 1
pub table_at : (p : Product) (n : ℕ) → 1 ≤ n → n ≤ level_count p → get_or (table_of p) (n - 1) (pos 0) ≡ published p n
unfolding table_of
table_at p n h k = values_from_at (published p) 1 (level_count p) (n - 1) (before n (level_count p) h k) ∙ ap (published p) (back n h)

-- the place is inside any list that is the table
pub table_within : (p : Product) (xs : List ℤ) (n : ℕ) → xs ≡ table_of p → 1 ≤ n → n ≤ level_count p → n - 1 < length xs
table_within p xs n e h k = let l = ap length e ∙ table_length p in omega arith

-- what is read there, as the code widens it
pub value_read : (p : Product) (xs : List ℤ) (n : ℕ) → xs ≡ table_of p → 1 ≤ n → n ≤ level_count p → mag (get_or xs (n - 1) (pos 0)) < 2 ^ 15
    → wide (get_or xs (n - 1) (pos 0)) ≡ published p n
value_read p xs n e h k m = wide_is (get_or xs (n - 1) (pos 0)) (record { sfits = m }) ∙ ap (λ (ys : List ℤ). get_or ys (n - 1) (pos 0)) e ∙ table_at p n h k

-- ---- every published value is below 2 ^ 15 in size
abbrev small : (ℕ → ℤ) → ℕ → ℕ → Bool
small f i zero = true
small f i (suc k) = ltb (mag (f i)) (2 ^ 15) && small f (suc i) k

small_at : (f : ℕ → ℤ) (i k j : ℕ) → T (small f i k) → j < k → mag (f (i + j)) < 2 ^ 15
small_at f i zero j t h = absurd (not-suc-le-zero h)
small_at f i (suc k) zero t h =
    subst (λ (m : ℕ). mag (f m) < 2 ^ 15) (sym (add-zero i)) (ltb→lt (mag (f i)) (2 ^ 15) (and_l (ltb (mag (f i)) (2 ^ 15)) (small f (suc i) k) t))
small_at f i (suc k) (suc j) t h =
    subst (λ (m : ℕ). mag (f m) < 2 ^ 15) (suc-add i j ∙ sym (add-suc i j))
    (small_at f (suc i) k j (and_r (ltb (mag (f i)) (2 ^ 15)) (small f (suc i) k) t) (le_of_suc-le-suc h))

all_small : (p : Product) → T (small (published p) 1 (level_count p))
unfolding published level_count
all_small Reflectivity = tt
all_small Velocity = tt

pub published_small : (p : Product) (n : ℕ) → 1 ≤ n → n ≤ level_count p → mag (published p n) < 2 ^ 15
published_small p n h k =
    subst (λ (m : ℕ). mag (published p m) < 2 ^ 15) (back n h) (small_at (published p) 1 (level_count p) (n - 1) (all_small p) (before n (level_count p) h k))
