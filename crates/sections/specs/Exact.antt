-- What is claimed of a format: its verdict, by its own checks, accepts exactly the files that are made of sections as it says, and refuses exactly the
-- others, each by the number and the place of the first check that fails. (Proved of every format whose checks say what it says, in proofs/Exact.antt.)
use Rattle.std.specs.Prelude.{ℕ, ◌≡◌, List}
use Rattle.sections.specs.Refusal.{number_of}
use Rattle.sections.specs.Checks.{FormatChecks}
use Rattle.sections.specs.Verdict.{accepted, refused, verdict_by}
use Rattle.sections.specs.Accepted.{Format, AcceptedBy}
use Rattle.sections.specs.Refused.{RefusedBy, RefusedAt}
use Rattle.sections.specs.declared.Cut.{Cut}
use Rattle.sections.specs.declared.Refusal.{Refusal}

pub record Exact (own : FormatChecks) (format : Format) : Type 0 where
  pub refused_only : (s : List ℕ) (r : Refusal) → verdict_by own s ≡ refused r → RefusedBy own s r
  pub refused_all : (s : List ℕ) (r : Refusal) → RefusedBy own s r → verdict_by own s ≡ refused r
  -- the same by number and place
  pub refused_at : (s : List ℕ) (r : Refusal) → verdict_by own s ≡ refused r → RefusedAt own s (number_of r.why) r.place
  pub accepted_only : (s : List ℕ) (cs : List Cut) → verdict_by own s ≡ accepted cs → AcceptedBy format s cs
  pub accepted_all : (s : List ℕ) (cs : List Cut) → AcceptedBy format s cs → verdict_by own s ≡ accepted cs
  -- a file has one list of cuts, or one refusal, and never both
  pub accepted_one : (s : List ℕ) (cs ds : List Cut) → AcceptedBy format s cs → AcceptedBy format s ds → cs ≡ ds
  pub refused_one : (s : List ℕ) (q r : Refusal) → RefusedBy own s q → RefusedBy own s r → q ≡ r
  pub not_both : (s : List ℕ) (cs : List Cut) (r : Refusal) → AcceptedBy format s cs → RefusedBy own s r → ⊥
