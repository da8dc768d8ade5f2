-- What holds of every cut that is made of sections as a format has them holds of each cut of an accepted file: by going along its cuts with the section 3
-- last seen.
use Prim.Native.Nat.{ℕ, zero, suc, ◌<◌}
use mathlib.Core.List.{List, ◌∷◌}
use native.Mathlib.Omega.{arith}
use native.Mathlib.Nat.{not-suc-le-zero, le_of_suc-le-suc}
use lib.ListN.{length, get_or}
use Rattle.sections.specs.Checks.{FormatChecks}
use Rattle.sections.specs.declared.Context.{Context}
use Rattle.sections.specs.Refused.{AllHold}
use Rattle.sections.specs.Verdict.{end_of, default_cut}
use Rattle.sections.specs.Accepted.{Format, Body, Cuts, none, new_3, same_3, AfterZero, AcceptedBy, section_at}
use Rattle.sections.specs.declared.Cut.{Cut}
use Rattle.sections.proofs.There.{AllThere, Known, there}
use Rattle.sections.proofs.Says.{Says}

-- the checks of a cut's sections hold, by their places
pub record Checked (o : FormatChecks) (s : List ℕ) (x : Context) (s7 : ℕ) : Type 0 where
  pub three : AllHold (o s x x.section3 3)
  pub five : AllHold (o s x x.section5 5)
  pub seven : AllHold (o s x s7 7)

abbrev pub context_for : ℕ → ℕ → ℕ → ℕ → Context
context_for first s3 s4 s5 = record { previous = 0; cuts = 0; first = first; section3 = s3; section4 = s4; section5 = s5 }

pub checked : (o : FormatChecks) (format : Format) → Says o format → (s : List ℕ) (first s3 at : ℕ) (c : Cut) (next : ℕ) → AllThere s s3 → format.Three (section_at s s3)
    → (b : Body format s (end_of s) first s3 at c next) → Checked o s (context_for first s3 at b.s5) b.s7
checked o format says s first s3 at c next h three b =
    let x = context_for first s3 at b.s5 in
    let known : Known format s at s3 = record { long4 = says.four_long _ _ _ b.four_is; three = three } in
    record {
      three = (says.three s x s3 h).1 three;
      five = (says.five s x b.s5 known (there (omega arith) b.five)).1 b.five_is;
      seven = (says.seven s x b.s7 at known b.five_is (there (omega arith) b.seven)).1 b.seven_is;
    }

-- a property of every cut from its section 4 on
abbrev pub OfBodies : Format → List ℕ → (Cut → Type 0) → Type 0
OfBodies format s P = (first s3 at : ℕ) (c : Cut) (next : ℕ) → AllThere s s3 → format.Three (section_at s s3) → Body format s (end_of s) first s3 at c next → P c

module _ (format : Format) (s : List ℕ) (P : Cut → Type 0) (of-body : OfBodies format s P) where
  each_later : (first s3 at : ℕ) (cs : List Cut) → AllThere s s3 → format.Three (section_at s s3)
      → Cuts format s (end_of s) first s3 at cs
      → (i : ℕ) → i < length cs → P (get_or cs i default_cut)
  each_later first s3 at cs h three none i lt = absurd (not-suc-le-zero lt)
  each_later first s3 at cs h three (new_3 {b = b} {next = next} {c = c} here mine body r) zero lt =
      of-body first at b c next (there (omega arith) here) mine body
  each_later first s3 at cs h three (new_3 {b = b} {next = next} {cs = ds} here mine body r) (suc i) lt =
      each_later first at next ds (there (omega arith) here) mine r i (le_of_suc-le-suc lt)
  each_later first s3 at cs h three (same_3 {next = next} {c = c} body r) zero lt = of-body first s3 at c next h three body
  each_later first s3 at cs h three (same_3 {next = next} {cs = ds} body r) (suc i) lt =
      each_later first s3 next ds h three r i (le_of_suc-le-suc lt)

  each_past : (cs : List Cut) → AfterZero format s (end_of s) cs → (i : ℕ) → i < length cs → P (get_or cs i default_cut)
  each_past cs p i lt = rw p.are (go i (rw p.are at lt))
    where
      all : AllThere s p.s3
      all = there (omega arith) p.three

      go : (i : ℕ) → i < length (p.cut ∷ p.later) → P (get_or (p.cut ∷ p.later) i default_cut)
      go zero h = of-body p.s4 p.s3 p.s4 p.cut p.next all p.three_is p.body
      go (suc i) h = each_later p.s4 p.s3 p.next p.later all p.three_is p.cuts i (le_of_suc-le-suc h)

  pub each_cut : (cs : List Cut) → AcceptedBy format s cs → (i : ℕ) → i < length cs → P (get_or cs i default_cut)
  each_cut cs a i lt = each_past cs a.past i lt
