-- Why a call on cut i of a file refuses, by FORMAT.md, "Order of checks": the file's own refusal; then 10 for the cut; then by what the call asks of the cut. Of any format.
use Rattle.std.specs.Prelude.{ℕ, ◌≤◌, ◌<◌, ◌⊎◌, List, length, get_or}
use Rattle.sections.specs.Refusal.{refuse}
use Rattle.sections.specs.Checks.{FormatChecks}
use Rattle.sections.specs.Parts.{bins_in, rays_in}
use Rattle.sections.specs.Verdict.{default_cut}
use Rattle.sections.specs.Accepted.{Format, AcceptedBy}
use Rattle.sections.specs.Refused.{RefusedBy}
use Rattle.sections.specs.declared.Cut.{Cut}
use Rattle.sections.specs.declared.Refusal.{Refusal}
use Rattle.sections.specs.declared.Why.TheVariants.{Argument, Room, Record}

-- on the cut: 10 for another argument; then 11 for room; then 13 for a record, at section 7. Each by what is wrong then
pub data CutReason (c : Cut) (Wrong Short Unfit : Type 0) : Refusal → Type 0 where
  by_argument : Wrong → CutReason c Wrong Short Unfit (refuse Argument 0)
  by_room : (Wrong → ⊥) → Short → CutReason c Wrong Short Unfit (refuse Room 0)
  by_record : (Wrong → ⊥) → (Short → ⊥) → Unfit → CutReason c Wrong Short Unfit (refuse Record c.section7)

-- of a call that fills nothing, and of one that is lent memory and no record
abbrev pub Asking : (Cut → Type 0) → Cut → Refusal → Type 0
Asking Wrong c = CutReason c (Wrong c) ⊥ ⊥

abbrev pub Filling : (Cut → Type 0) → (Cut → Type 0) → Cut → Refusal → Type 0
Filling Wrong Short c = CutReason c (Wrong c) (Short c) ⊥

-- of a bin call: the ray or the bin is outside
abbrev pub BinFault : List ℕ → ℕ → ℕ → Cut → Refusal → Type 0
BinFault s ray bin = Asking (λ c. (rays_in s c ≤ ray) ⊎ (bins_in s c ≤ bin))

pub data Reason (own : FormatChecks) (format : Format) (s : List ℕ) (i : ℕ) (OnCut : Cut → Refusal → Type 0) : Refusal → Type 0 where
  by_file : {r : Refusal} → RefusedBy own s r → Reason own format s i OnCut r
  no_cut : {cs : List Cut} → AcceptedBy format s cs → length cs ≤ i → Reason own format s i OnCut (refuse Argument 0)
  on_its_cut : {cs : List Cut} {r : Refusal} → AcceptedBy format s cs → i < length cs → OnCut (get_or cs i default_cut) r → Reason own format s i OnCut r
