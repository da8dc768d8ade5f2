-- What the checks of a section 7 go by, of the sections before it: there are no more points than a length can count. And that this is so before every section 7: the
-- section 3 last seen has passed, and its checks hold the points.
use Rattle.std.specs.Prelude.{ℕ, ◌≤◌, List}
use Rattle.std.proofs.Common.{arith}
use Rattle.rules.specs.Fields.{points_at}
use Rattle.rules.proofs.Bounds.{points_bound}
use Rattle.sections.specs.History.{context_of}
use Rattle.sections.specs.Refused.{AllHold}
use Rattle.sections.specs.Ready.{Needs, ReadyBefore7}
use Rattle.sections.specs.declared.Context.{Context}
use Rattle.sections.proofs.Held.{held}
use Rattle.dual_format.specs.Rules.{flag_rules, rules3}
use Rattle.dual_format.specs.Checks.{dual_checks}

abbrev pub FewPoints : Needs
FewPoints s x = points_at s x.section3 ≤ 2097152

-- a section 3 that passes has few points
pub few_points : (s : List ℕ) (x : Context) (at : ℕ) → AllHold (dual_checks s x at 3) → points_at s at ≤ 2097152
unfolding rules3 dual_checks
few_points s x at h = points_bound s at 50121 flag_rules h.1.0

pub few_ready : ReadyBefore7 dual_checks FewPoints
unfolding context_of
few_ready s end seen at p six = held dual_checks s end 3 (omega arith) (omega arith) (λ k. points_at s k ≤ 2097152) (few_points s) p (omega arith)
