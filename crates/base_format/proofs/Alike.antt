-- The fields and rules of a section at a place, by its octets.
use Prim.Native.Nat.{ℕ, ◌+◌, ◌-◌, ◌≤◌}
use mathlib.Core.Path.{◌≡◌, refl, ◌∙◌, ap}
use mathlib.Core.List.{List}
use native.Mathlib.Omega.{arith}
use lib.ListN.{length, take, drop}
use Rattle.octets.proofs.Lies.{part_same}
use Rattle.rules.specs.Rules.{meets_all}
use Rattle.base_format.specs.Rules.{rules3, rules4, rules5}
use Rattle.base_format.specs.Fields.{site_at, greatest_at, count_at}
use Rattle.rules.proofs.Moved.{rules_same}
use Rattle.sections.specs.Accepted.{section_at}
use Rattle.sections.proofs.There.{AllThere, lies_at}
use Rattle.sections.proofs.Alike.{field_alike}
use Rattle.base_format.specs.Parts.{table_at, data_at}

module _ (s : List ℕ) (at : ℕ) where
  pub site_alike : 30 ≤ length (section_at s at) → site_at s at ≡ site_at (section_at s at) 0
  unfolding site_at
  site_alike le = field_alike s at 29 2 (omega arith) (omega arith)

  pub greatest_alike : 17 ≤ length (section_at s at) → greatest_at s at ≡ greatest_at (section_at s at) 0
  unfolding greatest_at
  greatest_alike le = field_alike s at 13 2 (omega arith) (omega arith)

  pub count_alike : 17 ≤ length (section_at s at) → count_at s at ≡ count_at (section_at s at) 0
  unfolding count_at
  count_alike le = field_alike s at 15 2 (omega arith) (omega arith)

  pub table_alike : AllThere s at → 17 ≤ length (section_at s at) → table_at s at ≡ drop 17 (section_at s at)
  unfolding table_at
  table_alike h le = ap (λ (n : ℕ). take (n - 17) (drop (at + 17) s)) h ∙ part_same s at _ (lies_at s at) 17 le

  pub data_alike : AllThere s at → 5 ≤ length (section_at s at) → data_at s at ≡ drop 5 (section_at s at)
  unfolding data_at
  data_alike h le = ap (λ (n : ℕ). take (n - 5) (drop (at + 5) s)) h ∙ part_same s at _ (lies_at s at) 5 le

  pub rules3_alike : 41 ≤ length (section_at s at) → meets_all s at rules3 ≡ meets_all (section_at s at) 0 rules3
  unfolding rules3
  rules3_alike le = rules_same s at _ (lies_at s at) 41 le rules3 refl

  pub rules4_alike : (p q : ℕ) → 60 ≤ length (section_at s at) → meets_all s at (rules4 p q) ≡ meets_all (section_at s at) 0 (rules4 p q)
  unfolding rules4
  rules4_alike p q le = rules_same s at _ (lies_at s at) 60 le (rules4 p q) refl

  pub rules5_alike : (m : ℕ) → 17 ≤ length (section_at s at) → meets_all s at (rules5 m) ≡ meets_all (section_at s at) 0 (rules5 m)
  unfolding rules5
  rules5_alike m le = rules_same s at _ (lies_at s at) 17 le (rules5 m) refl
