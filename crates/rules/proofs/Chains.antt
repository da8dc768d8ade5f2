-- Chains of tests: a list of rules is met where the chain that the code tests is true, whatever the list.
use Prim.Native.Nat.{ℕ, ◌+◌, ◌*◌, ◌^◌, ◌≤◌, ◌<◌}
use mathlib.Core.Path.{◌≡◌, refl, sym, ◌∙◌, subst⁻¹}
use native.Mathlib.Nat.{le_of_lt, lt_of_le_of_lt, mul-le-mul_left, mul-lt-mul_of_pos_right}
use lib.Pow.{pow_pos, pow-add}
use lib.Dec.{leb}
use borrow.Author.Tests.{leb-true, le-leb}
use mathlib.Core.Bool.{Bool, true, false, false≢true, ◌&&◌, ◌||◌, and-true, and_assoc}
use mathlib.Core.List.{List, [], ◌∷◌, ◌++◌}
use Rattle.rules.specs.Rules.{Rule, meets, meets_all}

pub both : {a b c d : Bool} → a ≡ c → b ≡ d → (a && b) ≡ (c && d)
both p q = cc

pub and_true_both : (a b : Bool) → (a && b) ≡ true → (a ≡ true) × (b ≡ true)
and_true_both true b h = (refl, h)
and_true_both false b h = (h, absurd (false≢true h))

pub one_of : {a b c d : Bool} → a ≡ c → b ≡ d → (a || b) ≡ (c || d)
one_of p q = cc

-- two comparisons that say the same
pub leb_same : (a b c d : ℕ) → (a ≤ b → c ≤ d) → (c ≤ d → a ≤ b) → leb a b ≡ leb c d
leb_same a b c d f g = go (leb a b) (leb c d) refl refl
  where
    go : (t u : Bool) → leb a b ≡ t → leb c d ≡ u → leb a b ≡ leb c d
    go true true p q = p ∙ sym q
    go true false p q = p ∙ sym (le-leb c d (f (leb-true a b p)))
    go false true p q = le-leb a b (g (leb-true c d q)) ∙ sym q
    go false false p q = p ∙ sym q

-- a product of two numbers below 2 ^ k
pub below : (k : ℕ) {a b : ℕ} → a < 2 ^ k → b < 2 ^ k → a * b < 2 ^ (k + k)
below k {a} {b} ha hb =
    subst⁻¹ (λ (n : ℕ). a * b < n) (pow-add 2 k k)
    (lt_of_le_of_lt (mul-le-mul_left a (le_of_lt hb)) (mul-lt-mul_of_pos_right ha (pow_pos k)))

-- the rules from the left, as the code tests them
abbrev pub meets_from : Bool → List ℕ → ℕ → List Rule → Bool
meets_from acc s at [] = acc
meets_from acc s at (r ∷ rs) = meets_from (acc && meets s at r) s at rs

-- one law for every list of rules: the chain that the code tests is the list's
pub flat : (acc : Bool) (s : List ℕ) (at : ℕ) (rs : List Rule) → meets_from acc s at rs ≡ (acc && meets_all s at rs)
unfolding meets_all
flat acc s at [] = sym (and-true acc)
flat acc s at (r ∷ rs) = flat (acc && meets s at r) s at rs ∙ and_assoc acc (meets s at r) (meets_all s at rs)

-- two lists of rules after each other
pub meets_append : (s : List ℕ) (at : ℕ) (rs qs : List Rule) → meets_all s at (rs ++ qs) ≡ (meets_all s at rs && meets_all s at qs)
unfolding meets_all
meets_append s at [] qs = refl
meets_append s at (r ∷ rs) qs = rw (meets_append s at rs qs) (sym (and_assoc (meets s at r) (meets_all s at rs) (meets_all s at qs)))
