-- Why each call refuses, by FORMAT.md, "Order of checks": the file's own refusal; then 10 for the cut, or another argument; then 11 for room.
use Rattle.std.specs.Prelude.{ℕ, ◌≤◌, ◌<◌, ◌≡◌, false, ◌⊎◌, List, ℤ}
use Rattle.sections.specs.Parts.{bins_in, rays_in}
use Rattle.sections.specs.declared.Cut.{Cut}
use Rattle.sections.specs.declared.Refusal.{Refusal}
use Rattle.base_format.specs.Checks.{base_checks}
use Rattle.base_format.specs.Accepted.{base_format}
use Rattle.stretches.specs.Stretch.{per_entry}
use Rattle.stretches.specs.Call.{right_t, right_point}
use Rattle.calls.specs.Reasons.{Reason, Asking, Filling, BinFault}

abbrev pub CutReasons : List ℕ → ℕ → Refusal → Type 0
CutReasons s i = Reason base_checks base_format s i (Asking (λ c. ⊥))

-- on a cut, where the lent room is so long (of two rooms the smaller)
abbrev pub RayFault : List ℕ → ℕ → ℕ → Cut → Refusal → Type 0
RayFault s ray room = Filling (λ c. rays_in s c ≤ ray) (λ c. room < bins_in s c)

abbrev pub RayReasons : List ℕ → ℕ → ℕ → ℕ → Refusal → Type 0
RayReasons s i ray room = Reason base_checks base_format s i (RayFault s ray room)

abbrev pub BinReasons : List ℕ → ℕ → ℕ → ℕ → Refusal → Type 0
BinReasons s i ray bin = Reason base_checks base_format s i (BinFault s ray bin)

abbrev pub ListFault : List ℕ → ℤ → ℕ → ℕ → ℕ → Cut → Refusal → Type 0
ListFault s t ray bin room = Filling (λ c. (right_t t ≡ false) ⊎ (right_point (bins_in s c) (rays_in s c) ray bin ≡ false)) (λ c. room < per_entry)

abbrev pub ListReasons : List ℕ → ℕ → ℤ → ℕ → ℕ → ℕ → Refusal → Type 0
ListReasons s i t ray bin room = Reason base_checks base_format s i (ListFault s t ray bin room)
