-- What a list of rules that is met says of each field: one law for every list, by the rule's place in it; then the bounds that others go by.
use Prim.Native.Nat.{ℕ, zero, suc, ◌≤◌, ◌<◌}
use mathlib.Core.Path.{◌≡◌}
use mathlib.Core.List.{List, [], ◌∷◌, ◌++◌}
use mathlib.Core.Bool.{true}
use native.Mathlib.Omega.{arith}
use native.Mathlib.Nat.{not-suc-le-zero, le_of_suc-le-suc, le_antisymm, mul-le-mul}
use borrow.Author.Tests.{leb-true, le-leb}
use lib.ListN.{length, get_or}
use lib.Dec.{leb}
use Rattle.rules.specs.Rules.{Rule, within, is, field, meets, meets_all, grid_rules}
use Rattle.rules.specs.Fields.{bins_at, rays_at, points_at}
use Rattle.rules.proofs.Chains.{and_true_both}

pub nth_rule : (s : List ℕ) (at : ℕ) (rs : List Rule) (d : Rule) → meets_all s at rs ≡ true → (i : ℕ) → i < length rs → meets s at (get_or rs i d) ≡ true
unfolding meets_all
nth_rule s at [] d h i lt = absurd (not-suc-le-zero lt)
nth_rule s at (r ∷ rs) d h zero lt = (and_true_both (meets s at r) (meets_all s at rs) h).0
nth_rule s at (r ∷ rs) d h (suc i) lt =
    nth_rule s at rs d (and_true_both (meets s at r) (meets_all s at rs) h).1 i (le_of_suc-le-suc lt)

pub within_is : (s : List ℕ) (at k w lo hi : ℕ) → meets s at (within k w lo hi) ≡ true → (lo ≤ field s at k w) × (field s at k w ≤ hi)
unfolding meets
within_is s at k w lo hi h =
    let e = and_true_both (leb lo (field s at k w)) (leb (field s at k w) hi) h in
    (leb-true _ _ e.0, leb-true _ _ e.1)

-- a rule of one number alone
pub is_exactly : (s : List ℕ) (at k w v : ℕ) → meets s at (is k w v) ≡ true → field s at k w ≡ v
is_exactly s at k w v h = let e = within_is s at k w v v h in le_antisymm e.1 e.0

pub exactly_is : (s : List ℕ) (at k w v : ℕ) → field s at k w ≡ v → meets s at (is k w v) ≡ true
unfolding meets
exactly_is s at k w v e = rw (e, le-leb v v (omega arith))

module _ (s : List ℕ) (at : ℕ) where
  -- section 3, whatever its template: Nb from 1 to 2048, Nr from 1 to 1024, and so at most 2,097,152 points
  pub bins_bound : (template : ℕ) (rest : List Rule) → meets_all s at (grid_rules template ++ rest) ≡ true → (1 ≤ bins_at s at) × (bins_at s at ≤ 2048)
  unfolding bins_at
  bins_bound template rest h = within_is s at 15 4 1 2048 (nth_rule s at (grid_rules template ++ rest) (is 0 0 0) h 4 (omega arith))

  pub rays_bound : (template : ℕ) (rest : List Rule) → meets_all s at (grid_rules template ++ rest) ≡ true → (1 ≤ rays_at s at) × (rays_at s at ≤ 1024)
  unfolding rays_at
  rays_bound template rest h = within_is s at 19 4 1 1024 (nth_rule s at (grid_rules template ++ rest) (is 0 0 0) h 5 (omega arith))

  pub points_bound : (template : ℕ) (rest : List Rule) → meets_all s at (grid_rules template ++ rest) ≡ true → points_at s at ≤ 2097152
  unfolding points_at
  points_bound template rest h = mul-le-mul (bins_bound template rest h).1 (rays_bound template rest h).1
