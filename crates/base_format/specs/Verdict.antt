-- The verdict on any octets as a run-length packed file, to compute; and which octets are refused, by which number and at which place.
use Rattle.std.specs.Prelude.{ℕ, List}
use Rattle.sections.specs.Verdict.{Verdict, verdict_by}
use Rattle.sections.specs.Refused as R
use Rattle.sections.specs.declared.Refusal.{Refusal}
use Rattle.base_format.specs.Checks.{base_checks, any_data_checks}

abbrev pub verdict : List ℕ → Verdict
verdict = verdict_by base_checks

abbrev pub RefusedBy : List ℕ → Refusal → Type 0
RefusedBy = R.RefusedBy base_checks

-- the same by number and place
abbrev pub RefusedAt : List ℕ → ℕ → ℕ → Type 0
RefusedAt = R.RefusedAt base_checks

-- FORMAT.md, "Rays by a record": the verdict that leaves 8 out
abbrev pub any_data_verdict : List ℕ → Verdict
any_data_verdict = verdict_by any_data_checks
