-- Why the calls without a file refuse, in FORMAT.md's order: "Run read: 12, 10, 11, 8. Run write: 10, 11."
use Rattle.std.specs.Prelude.{ℕ, ◌≤◌, ◌<◌, List, length}
use Rattle.runs.specs.Runs.{AtFault}
use Rattle.packing.specs.Write.{greatest, packed}
use Rattle.bare.specs.declared.ReadRefusal.{ReadRefusal}
use Rattle.bare.specs.declared.ReadRefusal.TheVariants as R
use Rattle.bare.specs.declared.CheckRefusal.{CheckRefusal}
use Rattle.bare.specs.declared.CheckRefusal.TheVariants as C
use Rattle.bare.specs.declared.WriteRefusal.{WriteRefusal}
use Rattle.bare.specs.declared.WriteRefusal.TheVariants as W

-- of octets s under V for n levels, with room for so many
pub data ReadReason (v n room : ℕ) (s : List ℕ) : ReadRefusal → Type 0 where
  by_v : 253 < v → ReadReason v n room s R.V
  by_argument : v ≤ 253 → 2097152 < n → ReadReason v n room s R.Argument
  by_room : v ≤ 253 → n ≤ 2097152 → room < n → ReadReason v n room s R.Room
  by_data : {at : ℕ} → v ≤ 253 → n ≤ 2097152 → n ≤ room → AtFault v n s at → ReadReason v n room s (R.Data at)

-- run check: the same but for room, as nothing is lent
pub data CheckReason (v n : ℕ) (s : List ℕ) : CheckRefusal → Type 0 where
  by_v : 253 < v → CheckReason v n s C.V
  by_argument : v ≤ 253 → 2097152 < n → CheckReason v n s C.Argument
  by_data : {at : ℕ} → v ≤ 253 → n ≤ 2097152 → AtFault v n s at → CheckReason v n s (C.Data at)

-- of levels s, with room for so many octets
pub data WriteReason (room : ℕ) (s : List ℕ) : WriteRefusal → Type 0 where
  by_count : 2097152 < length s → WriteReason room s W.Argument
  by_level : 252 < greatest s → WriteReason room s W.Argument
  by_room : length s ≤ 2097152 → greatest s ≤ 252 → room < length (packed s) → WriteReason room s W.Room
