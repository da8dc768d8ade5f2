-- FORMAT.md, "Refusals" and "Order of checks": the checks of sections 3, 4, 5 and 7, in that order: 4, 5, 6, 7, 8.
use Rattle.std.specs.Prelude.{ℕ, ◌+◌, ◌*◌, List, [], ◌∷◌, ◌++◌, cond, leb, eqb}
use Rattle.rules.specs.Rules.{field, meets_all}
use Rattle.base_format.specs.Rules.{rules3, rules4, rules5}
use Rattle.rules.specs.Fields.{length_at, rays_at, points_at, parameter_at}
use Rattle.base_format.specs.Fields.{site_at, greatest_at, count_at}
use Rattle.runs.specs.Run.{gives, fault_at}
use Rattle.values.specs.Published.{level_count}
use Rattle.values.specs.Table.{table_right}
use Rattle.sections.specs.Checks.{Check, check, FormatChecks}
use Rattle.sections.specs.declared.Context.{Context}
use Rattle.sections.specs.Refusal.{refuse}
use Rattle.sections.specs.declared.Why.TheVariants.{SectionLength, Field, Points, Table, Data}
use Rattle.base_format.specs.Parts.{product_of, table_at, data_at}

abbrev pub checks3 : List ℕ → ℕ → List Check
checks3 s at =
    check (refuse SectionLength at) (eqb (length_at s at) 41)
    ∷ check (refuse Field at) (meets_all s at rules3)
    ∷ check (refuse Points at) (eqb (field s at 7 4) (points_at s at))
    ∷ []

abbrev pub checks4 : List ℕ → Context → ℕ → List Check
checks4 s x at =
    check (refuse SectionLength at) (eqb (length_at s at) (60 + 4 * rays_at s x.section3))
    ∷ check (refuse Field at) (meets_all s at (rules4 (parameter_at s x.first) (site_at s x.first)))
    ∷ []

-- "17 + 2M with M as read"; under 17 no M makes the length right
abbrev pub past_length5 : List ℕ → Context → ℕ → List Check
past_length5 s x at =
    check (refuse Field at) (meets_all s at (rules5 (level_count (product_of (parameter_at s x.section4)))))
    ∷ check (refuse Points at) (eqb (field s at 6 4) (points_at s x.section3))
    ∷ check (refuse Table at) (table_right (table_at s at) (product_of (parameter_at s x.section4)))
    ∷ []

abbrev pub checks5 : List ℕ → Context → ℕ → List Check
checks5 s x at = check (refuse SectionLength at) (eqb (length_at s at) (17 + 2 * count_at s at)) ∷ past_length5 s x at

abbrev pub any_data_checks7 : List ℕ → ℕ → List Check
any_data_checks7 s at = check (refuse SectionLength at) (leb 6 (length_at s at)) ∷ []

-- the data is looked at last: 8, whose place is that of the octet at fault, "counted in the file"
abbrev pub data_fault : List ℕ → Context → ℕ → ℕ
data_fault s x at = at + 5 + fault_at (greatest_at s x.section5) (points_at s x.section3) (data_at s at)

abbrev pub checks7 : List ℕ → Context → ℕ → List Check
checks7 s x at = any_data_checks7 s at ++ (check (refuse Data (data_fault s x at)) (gives (greatest_at s x.section5) (points_at s x.section3) (data_at s at)) ∷ [])

unfoldable pub base_checks : FormatChecks
base_checks s x at n =
    cond (eqb n 3) (checks3 s at)
    (cond (eqb n 4) (checks4 s x at)
    (cond (eqb n 5) (checks5 s x at)
    (cond (eqb n 7) (checks7 s x at) [])))

-- FORMAT.md, "Rays by a record": "every file check but 8"
unfoldable pub any_data_checks : FormatChecks
any_data_checks s x at n = cond (eqb n 7) (any_data_checks7 s at) (base_checks s x at n)
