-- FORMAT.md, "Sections", as it stands there: what a run-length packed file is, with no word on the order of checks. Of a section its octets count, and
-- not the place where they stand.
use Rattle.std.specs.Prelude.{ℕ, ◌+◌, ◌*◌, ◌≤◌, ◌≡◌, List, length, drop}
use Rattle.rules.specs.Rules.{field}
use Rattle.base_format.specs.Rules.{rules3, rules4, rules5}
use Rattle.rules.specs.Fields.{rays_at, points_at, parameter_at}
use Rattle.base_format.specs.Fields.{site_at, greatest_at, count_at}
use Rattle.runs.specs.Runs.{Exactly}
use Rattle.values.specs.Published.{level_count}
use Rattle.values.specs.Table.{table_octets}
use Rattle.sections.specs.Accepted.{Meets, Format, AcceptedBy}
use Rattle.sections.specs.declared.Cut.{Cut}
use Rattle.base_format.specs.Parts.{product_of}

pub record Section3 (s3 : List ℕ) : Type 0 where
  pub long : length s3 ≡ 41
  pub rules : Meets s3 0 rules3
  pub points : field s3 0 7 4 ≡ points_at s3 0

-- under the section 3 `s3`, in a file whose first section 4 is `first`
pub record Section4 (first s3 s4 : List ℕ) : Type 0 where
  pub long : length s4 ≡ 60 + 4 * rays_at s3 0
  pub rules : Meets s4 0 (rules4 (parameter_at first 0) (site_at first 0))

-- level n's value at 16+2n to 17+2n, so the values are its octets from 18 on
pub record Section5 (s3 s4 s5 : List ℕ) : Type 0 where
  pub long : length s5 ≡ 17 + 2 * count_at s5 0
  pub rules : Meets s5 0 (rules5 (level_count (product_of (parameter_at s4 0))))
  pub points : field s5 0 6 4 ≡ points_at s3 0
  pub table : drop 17 s5 ≡ table_octets (product_of (parameter_at s4 0))

-- its data, from octet 6 on, decodes, by template 7.200 under the V of section 5, to exactly Nb x Nr levels
pub record Section7 (s3 s5 s7 : List ℕ) : Type 0 where
  pub long : 6 ≤ length s7
  pub bins : Exactly (greatest_at s5 0) (points_at s3 0) (drop 5 s7)

abbrev pub base_format : Format
base_format = record { Three = Section3; Four = Section4; Five = Section5; Seven = Section7 }

-- an accepted file and its cuts
abbrev pub Accepted : List ℕ → List Cut → Type 0
Accepted = AcceptedBy base_format

-- FORMAT.md, "Rays by a record": the same where the data may be anything. It differs from `Accepted` in section 7 alone, whose octets need only be there
pub record AnyDataSection7 (s3 s5 s7 : List ℕ) : Type 0 where
  pub long : 6 ≤ length s7

abbrev pub any_data_format : Format
any_data_format = record { Three = Section3; Four = Section4; Five = Section5; Seven = AnyDataSection7 }

abbrev pub AcceptedAnyData : List ℕ → List Cut → Type 0
AcceptedAnyData = AcceptedBy any_data_format
