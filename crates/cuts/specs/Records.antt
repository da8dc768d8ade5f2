-- FORMAT.md, "Rays by a record", of one cut: its rays' records, which records fit its data, and what decoding from one gives.
use Rattle.std.specs.Prelude.{ℕ, List, Bool}
use Rattle.index.specs.declared.RayRecord.{RayRecord}
use Rattle.index.specs.Index.{usable, from_record, records}
use Rattle.sections.specs.Parts.{bins_in, rays_in}
use Rattle.sections.specs.declared.Cut.{Cut}
use Rattle.base_format.specs.Parts.{data_at, greatest_in}

unfoldable pub records_in : List ℕ → Cut → List RayRecord
records_in s c = records (rays_in s c) (bins_in s c) (greatest_in s c) (data_at s c.section7) 0

unfoldable pub usable_in : List ℕ → Cut → RayRecord → Bool
usable_in s c rec = usable (greatest_in s c) (bins_in s c) (data_at s c.section7) rec

unfoldable pub ray_from : List ℕ → Cut → RayRecord → List ℕ
ray_from s c rec = from_record (greatest_in s c) (bins_in s c) (data_at s c.section7) rec
