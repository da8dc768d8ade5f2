-- FORMAT.md, "Dual-polarisation files": the checks of sections 3, 4, 5 and 7 of a dual-polarisation file, in the order 4, 5, 14 (just after 5), 6.
use Rattle.std.specs.Prelude.{ℕ, List, [], ◌∷◌, cond, ◌&&◌, leb, eqb}
use Rattle.rules.specs.Rules.{field, meets, meets_all}
use Rattle.rules.specs.Fields.{length_at, rays_at, points_at, parameter_at}
use Rattle.scaled.specs.Scaled.{finite_single}
use Rattle.sections.specs.Checks.{Check, check, FormatChecks}
use Rattle.sections.specs.declared.Context.{Context}
use Rattle.sections.specs.Refusal.{refuse}
use Rattle.sections.specs.declared.Why.TheVariants.{SectionLength, Field, Points, Unread}
use Rattle.dual_format.specs.Rules.{rules3, scan_rules, rules4, rules5, width_rule}
use Rattle.dual_format.specs.Fields.{length3, least4, site_at, reference_at, width_at, length7}

abbrev pub checks3 : List ℕ → ℕ → List Check
checks3 s at =
    check (refuse SectionLength at) (eqb (length_at s at) (length3 s at))
    ∷ check (refuse Field at) (meets_all s at rules3)
    ∷ check (refuse Unread at) (meets_all s at scan_rules)
    ∷ check (refuse Points at) (eqb (field s at 7 4) (points_at s at))
    ∷ []

abbrev pub checks4 : List ℕ → Context → ℕ → List Check
checks4 s x at =
    check (refuse SectionLength at) (leb (least4 s at (rays_at s x.section3)) (length_at s at))
    ∷ check (refuse Field at) (meets_all s at (rules4 (parameter_at s x.first) (site_at s x.first)))
    ∷ []

abbrev pub checks5 : List ℕ → Context → ℕ → List Check
checks5 s x at =
    check (refuse SectionLength at) (eqb (length_at s at) 21)
    ∷ check (refuse Field at) (meets_all s at rules5)
    ∷ check (refuse Unread at) (finite_single (reference_at s at) && meets s at width_rule)
    ∷ check (refuse Points at) (eqb (field s at 6 4) (points_at s x.section3))
    ∷ []

abbrev pub checks7 : List ℕ → Context → ℕ → List Check
checks7 s x at = check (refuse SectionLength at) (eqb (length_at s at) (length7 (points_at s x.section3) (width_at s x.section5))) ∷ []

unfoldable pub dual_checks : FormatChecks
dual_checks s x at n =
    cond (eqb n 3) (checks3 s at)
    (cond (eqb n 4) (checks4 s x at)
    (cond (eqb n 5) (checks5 s x at)
    (cond (eqb n 7) (checks7 s x at) [])))
