-- The fields and rules of a section at a place, by its octets.
use Prim.Native.Nat.{ℕ, ◌≤◌}
use mathlib.Core.Path.{◌≡◌, refl}
use mathlib.Core.List.{List}
use native.Mathlib.Omega.{arith}
use lib.ListN.{length}
use Rattle.rules.specs.Rules.{meets, meets_all}
use Rattle.rules.proofs.Moved.{meets_same, rules_same}
use Rattle.sections.specs.Accepted.{section_at}
use Rattle.sections.proofs.There.{lies_at}
use Rattle.sections.proofs.Alike.{field_alike}
use Rattle.dual_format.specs.Rules.{rules3, scan_rules, rules4, rules5, width_rule}
use Rattle.dual_format.specs.Fields.{with_lists, site_at, reference_at, width_at}

-- a section with lists has the octets before them
pub lists_long : (n k l : ℕ) (s : List ℕ) (at rays : ℕ) → n ≤ with_lists n k l s at rays
unfolding with_lists
lists_long n k l s at rays = omega arith

module _ (s : List ℕ) (at : ℕ) where
  pub lists_alike : (n k l rays : ℕ) → 1 ≤ k → 1 ≤ l → k ≤ length (section_at s at) → l ≤ length (section_at s at)
      → with_lists n k l s at rays ≡ with_lists n k l (section_at s at) 0 rays
  unfolding with_lists
  lists_alike n k l rays k1 l1 kn ln = rw (field_alike s at k 1 k1 (omega arith), field_alike s at l 1 l1 (omega arith))

  pub site_alike : 30 ≤ length (section_at s at) → site_at s at ≡ site_at (section_at s at) 0
  unfolding site_at
  site_alike le = field_alike s at 28 2 (omega arith) (omega arith)

  pub reference_alike : 21 ≤ length (section_at s at) → reference_at s at ≡ reference_at (section_at s at) 0
  unfolding reference_at
  reference_alike le = field_alike s at 12 4 (omega arith) (omega arith)

  pub width_alike : 21 ≤ length (section_at s at) → width_at s at ≡ width_at (section_at s at) 0
  unfolding width_at
  width_alike le = field_alike s at 20 1 (omega arith) (omega arith)

  pub rules3_alike : 58 ≤ length (section_at s at) → meets_all s at rules3 ≡ meets_all (section_at s at) 0 rules3
  unfolding rules3
  rules3_alike le = rules_same s at _ (lies_at s at) 58 le rules3 refl

  pub scan_alike : 58 ≤ length (section_at s at) → meets_all s at scan_rules ≡ meets_all (section_at s at) 0 scan_rules
  unfolding scan_rules
  scan_alike le = rules_same s at _ (lies_at s at) 58 le scan_rules refl

  pub rules4_alike : (p q : ℕ) → 61 ≤ length (section_at s at) → meets_all s at (rules4 p q) ≡ meets_all (section_at s at) 0 (rules4 p q)
  unfolding rules4
  rules4_alike p q le = rules_same s at _ (lies_at s at) 61 le (rules4 p q) refl

  pub rules5_alike : 21 ≤ length (section_at s at) → meets_all s at rules5 ≡ meets_all (section_at s at) 0 rules5
  unfolding rules5
  rules5_alike le = rules_same s at _ (lies_at s at) 21 le rules5 refl

  pub cells_alike : 21 ≤ length (section_at s at) → meets s at width_rule ≡ meets (section_at s at) 0 width_rule
  cells_alike le = meets_same s at _ (lies_at s at) 21 le width_rule refl
