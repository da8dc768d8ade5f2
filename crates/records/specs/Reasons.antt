-- Why index building and a ray call by a record refuse: FORMAT.md, "Rays by a record".
use Rattle.std.specs.Prelude.{ℕ, ◌+◌, ◌≤◌, ◌<◌, List, length, drop, get_or}
use Rattle.runs.specs.Run.{levels, run_len}
use Rattle.index.specs.declared.RayRecord.{RayRecord}
use Rattle.sections.specs.Parts.{bins_in, rays_in}
use Rattle.sections.specs.declared.Cut.{Cut}
use Rattle.sections.specs.declared.Refusal.{Refusal}
use Rattle.base_format.specs.Parts.{data_at, greatest_in}
use Rattle.base_format.specs.Checks.{base_checks, any_data_checks}
use Rattle.base_format.specs.Accepted.{base_format, any_data_format}
use Rattle.calls.specs.Reasons.{Reason, CutReason, Filling}

-- "Building with fewer records than rays: 11"
abbrev pub BuildFault : List ℕ → ℕ → Cut → Refusal → Type 0
BuildFault s room = Filling (λ c. ⊥) (λ c. room < rays_in s c)

abbrev pub BuildReasons : List ℕ → ℕ → ℕ → Refusal → Type 0
BuildReasons s i room = Reason base_checks base_format s i (BuildFault s room)

-- "13, for a record whose offset lies outside the data, whose octet there exceeds V, whose earlier bins reach the run's length, or whose data ends before Nb bins"
pub data Unfit (v nb : ℕ) (d : List ℕ) (rec : RayRecord) : Type 0 where
  outside : length d ≤ rec.offset → Unfit v nb d rec
  above : v < get_or d rec.offset 0 → Unfit v nb d rec
  reached : run_len v d rec.offset ≤ rec.before → Unfit v nb d rec
  ends : length (levels v (drop rec.offset d)) < rec.before + nb → Unfit v nb d rec

-- 10 for the ray; then 11; "it comes after 11"
abbrev pub FromFault : List ℕ → ℕ → ℕ → RayRecord → Cut → Refusal → Type 0
FromFault s ray room rec c = CutReason c (rays_in s c ≤ ray) (room < bins_in s c) (Unfit (greatest_in s c) (bins_in s c) (data_at s c.section7) rec)

-- "every file check but 8"
abbrev pub FromReasons : List ℕ → ℕ → ℕ → ℕ → RayRecord → Refusal → Type 0
FromReasons s i ray room rec = Reason any_data_checks any_data_format s i (FromFault s ray room rec)
