-- The verdict on any octets as a dual-polarisation file, to compute; and which octets are refused, by which number and at which place.
use Rattle.std.specs.Prelude.{ℕ, List}
use Rattle.sections.specs.Verdict.{Verdict, verdict_by}
use Rattle.sections.specs.Refused as R
use Rattle.sections.specs.declared.Refusal.{Refusal}
use Rattle.dual_format.specs.Checks.{dual_checks}

abbrev pub verdict : List ℕ → Verdict
verdict = verdict_by dual_checks

abbrev pub RefusedBy : List ℕ → Refusal → Type 0
RefusedBy = R.RefusedBy dual_checks

-- the same by number and place
abbrev pub RefusedAt : List ℕ → ℕ → ℕ → Type 0
RefusedAt = R.RefusedAt dual_checks
