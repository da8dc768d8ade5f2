-- FORMAT.md, "Dual-polarisation files": what a dual-polarisation file is, with no word on the order of checks. Of a section its octets
-- count, and not the place where they stand.
use Rattle.std.specs.Prelude.{ℕ, ◌≤◌, ◌≡◌, List, true, length}
use Rattle.rules.specs.Rules.{field, meets}
use Rattle.rules.specs.Fields.{rays_at, points_at, parameter_at}
use Rattle.scaled.specs.Scaled.{finite_single}
use Rattle.sections.specs.Accepted.{Meets, Format, AcceptedBy}
use Rattle.sections.specs.declared.Cut.{Cut}
use Rattle.dual_format.specs.Rules.{rules3, scan_rules, rules4, rules5, width_rule}
use Rattle.dual_format.specs.Fields.{length3, least4, site_at, reference_at, width_at, length7}

pub record Section3 (s3 : List ℕ) : Type 0 where
  pub long : length s3 ≡ length3 s3 0
  pub rules : Meets s3 0 rules3
  pub scan : Meets s3 0 scan_rules
  pub points : field s3 0 7 4 ≡ points_at s3 0

-- under the section 3 `s3`, in a file whose first section 4 is `first`
pub record Section4 (first s3 s4 : List ℕ) : Type 0 where
  pub long : least4 s4 0 (rays_at s3 0) ≤ length s4
  pub rules : Meets s4 0 (rules4 (parameter_at first 0) (site_at first 0))

pub record Section5 (s3 s4 s5 : List ℕ) : Type 0 where
  pub long : length s5 ≡ 21
  pub rules : Meets s5 0 rules5
  pub number : finite_single (reference_at s5 0) ≡ true
  pub width : meets s5 0 width_rule ≡ true
  pub points : field s5 0 6 4 ≡ points_at s3 0

pub record Section7 (s3 s5 s7 : List ℕ) : Type 0 where
  pub long : length s7 ≡ length7 (points_at s3 0) (width_at s5 0)

abbrev pub dual_format : Format
dual_format = record { Three = Section3; Four = Section4; Five = Section5; Seven = Section7 }

-- an accepted file and its cuts
abbrev pub Accepted : List ℕ → List Cut → Type 0
Accepted = AcceptedBy dual_format
