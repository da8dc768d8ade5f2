-- What the checks of a section 7 go by, of the sections before it: there are no more bins than run reading takes, and V is one that it reads under. And that all this is
-- so before every section 7: the sections 3 and 5 last seen have passed, and their checks hold the bins and V.
use Rattle.std.specs.Prelude.{ℕ, ◌≤◌, ◌≡◌, List, true}
use Rattle.std.proofs.Common.{arith}
use Rattle.rules.specs.Rules.{is, meets_all}
use Rattle.rules.specs.Fields.{points_at, parameter_at}
use Rattle.rules.proofs.Bounds.{nth_rule, within_is, points_bound}
use Rattle.values.specs.Published.{level_count}
use Rattle.values.proofs.Published.{count_le}
use Rattle.sections.specs.History.{context_of}
use Rattle.sections.specs.Refused.{AllHold}
use Rattle.sections.specs.Ready.{Needs, ReadyBefore7}
use Rattle.sections.specs.declared.Context.{Context}
use Rattle.sections.proofs.Held.{Holds, held}
use Rattle.base_format.specs.Rules.{scan_rules, rules3, rules5}
use Rattle.base_format.specs.Fields.{greatest_at}
use Rattle.base_format.specs.Parts.{product_of}
use Rattle.base_format.specs.Checks.{base_checks, any_data_checks}

abbrev pub DataReady : Needs
DataReady s x = (points_at s x.section3 ≤ 2097152) × (greatest_at s x.section5 ≤ 252)

-- a section 3 that passes has few points
pub few_points : (s : List ℕ) (x : Context) (at : ℕ) → AllHold (base_checks s x at 3) → points_at s at ≤ 2097152
unfolding rules3 base_checks
few_points s x at h = points_bound s at 50120 scan_rules h.1.0

-- section 5 of a product with m levels: V is at most m
pub greatest_bound : (s : List ℕ) (at m : ℕ) → meets_all s at (rules5 m) ≡ true → greatest_at s at ≤ m
unfolding rules5 greatest_at
greatest_bound s at m h = (within_is s at 13 2 0 m (nth_rule s at (rules5 m) (is 0 0 0) h 2 (omega arith))).1

pub low_v : (s : List ℕ) → Holds base_checks s 5 (λ at. greatest_at s at ≤ 252)
unfolding base_checks
low_v s x at h =
    let product = product_of (parameter_at s x.section4) in
    let bound = greatest_bound s at (level_count product) h.1.0 in
    omega (arith, count_le product)

pub data_ready : ReadyBefore7 base_checks DataReady
unfolding context_of
data_ready s end seen at p six = (
  held base_checks s end 3 (omega arith) (omega arith) (λ k. points_at s k ≤ 2097152) (few_points s) p (omega arith),
  held base_checks s end 5 (omega arith) (omega arith) (λ k. greatest_at s k ≤ 252) (low_v s) p (omega arith),
)

-- where the data may be anything nothing is asked
abbrev pub NothingAsked : Needs
NothingAsked s x = Unit {0}

pub nothing_asked : ReadyBefore7 any_data_checks NothingAsked
nothing_asked s end seen at p six = tt
