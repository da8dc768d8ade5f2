-- Each kind of section: its checks all hold exactly where the section is as `AcceptedBy` has it. Sections 1 and 6 are every format's; of its own
-- sections a format has to show as much (`Says`), and nothing else.
use Prim.Native.Nat.{ℕ, ◌+◌, ◌≤◌}
use mathlib.Core.Path.{◌≡◌, refl}
use mathlib.Core.List.{List}
use mathlib.Core.Logic.{◌↔◌}
use borrow.Author.Tests.{eqb-true, eq-eqb}
use lib.ListN.{length}
use Rattle.rules.specs.Fields.{length_at, number_at}
use Rattle.sections.specs.Checks.{FormatChecks, section_checks}
use Rattle.sections.specs.declared.Context.{Context}
use Rattle.sections.specs.Accepted.{Format, Section, Section1, Section6, section_at}
use Rattle.sections.specs.Refused.{AllHold}
use Rattle.sections.proofs.Framed.{Framed}
use Rattle.sections.proofs.There.{AllThere, Known}

-- a format's checks, at the places of sections, ask just what the format says of their octets. (A section 7 is judged after its section 5.)
pub record Says (own : FormatChecks) (k : Format) : Type 0 where
  pub three : (s : List ℕ) (x : Context) (at : ℕ) → AllThere s at → AllHold (own s x at 3) ↔ k.Three (section_at s at)
  pub four : (s : List ℕ) (x : Context) (at : ℕ) → Known k s x.first x.section3 → AllThere s at
      → AllHold (own s x at 4) ↔ k.Four (section_at s x.first) (section_at s x.section3) (section_at s at)
  pub five : (s : List ℕ) (x : Context) (at : ℕ) → Known k s x.section4 x.section3 → AllThere s at
      → AllHold (own s x at 5) ↔ k.Five (section_at s x.section3) (section_at s x.section4) (section_at s at)
  pub seven : (s : List ℕ) (x : Context) (at s4 : ℕ) → Known k s s4 x.section3
      → k.Five (section_at s x.section3) (section_at s s4) (section_at s x.section5) → AllThere s at
      → AllHold (own s x at 7) ↔ k.Seven (section_at s x.section3) (section_at s x.section5) (section_at s at)
  -- a section 4 has the octets that later ones are compared with
  pub long_four : (s : List ℕ) (x : Context) (at : ℕ) → AllHold (own s x at 4) → 30 ≤ length_at s at
  pub four_long : (first s3 s4 : List ℕ) → k.Four first s3 s4 → 30 ≤ length s4

module _ (own : FormatChecks) (s : List ℕ) (end : ℕ) (x : Context) (at : ℕ) where
  -- a framed section of number n
  pub section_of : (n : ℕ) → number_at s at ≡ n → Framed s end x at → Section s end n at (at + length_at s at)
  section_of n e f = record { number = e; some = f.long; up_to = refl; inside = f.reach }

  pub section1_of : number_at s at ≡ 1 → Framed s end x at → AllHold (section_checks own s x at 1) → Section1 s end at (at + length_at s at)
  unfolding section_checks
  section1_of e f h = record { here = section_of 1 e f; long = eqb-true _ _ h.0; rules = h.1.0 }

  pub section6_of : number_at s at ≡ 6 → Framed s end x at → AllHold (section_checks own s x at 6) → Section6 s end at (at + length_at s at)
  unfolding section_checks
  section6_of e f h = record { here = section_of 6 e f; long = eqb-true _ _ h.0; rules = h.1.0 }

  pub own1 : {next : ℕ} → Section1 s end at next → AllHold (section_checks own s x at 1)
  unfolding section_checks
  own1 k = (eq-eqb _ _ k.long, (k.rules, tt))

  pub own6 : {next : ℕ} → Section6 s end at next → AllHold (section_checks own s x at 6)
  unfolding section_checks
  own6 k = (eq-eqb _ _ k.long, (k.rules, tt))
