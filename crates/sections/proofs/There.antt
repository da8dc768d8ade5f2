-- A section at a place of a file: its octets lie there, and where it ends inside the file they are all there.
use Prim.Native.Nat.{ℕ, ◌-◌, ◌≤◌}
use mathlib.Core.Path.{◌≡◌, sym, ◌∙◌, ap}
use mathlib.Core.List.{List, ◌++◌}
use native.Mathlib.Omega.{arith}
use lib.ListN.{length, drop, length-take, length-drop, take-append-drop}
use lib.Seq.{drop-drop}
use Rattle.octets.proofs.Lies.{Lies}
use Rattle.rules.specs.Fields.{length_at}
use Rattle.sections.specs.Accepted.{Format, Section, section_at}

pub lies_at : (s : List ℕ) (at : ℕ) → Lies s at (section_at s at)
lies_at s at = record { after = drop (length_at s at) (drop at s); from = sym (take-append-drop (length_at s at) (drop at s)) }

-- as many octets as the section's length says
abbrev pub AllThere : List ℕ → ℕ → Type 0
AllThere s at = length_at s at ≡ length (section_at s at)

-- what is known of the first section 4 and of the section 3 last seen, once they have passed: a 4 has the octets that later ones are compared with
pub record Known (k : Format) (s : List ℕ) (first s3 : ℕ) : Type 0 where
  pub long4 : 30 ≤ length (section_at s first)
  pub three : k.Three (section_at s s3)

module _ {s : List ℕ} {end n at next : ℕ} (inside : end ≤ length s) (h : Section s end n at next) where
  pub there : AllThere s at
  there =
      let up = h.up_to in
      let le = h.inside in
      let e : length (drop at s) ≡ length s - at = length-drop at s in
      sym (length-take (length_at s at) (drop at s) ∙ (omega (arith, e)))

  -- and the file goes on past it
  pub goes_on : drop at s ≡ section_at s at ++ drop next s
  goes_on =
      sym (take-append-drop (length_at s at) (drop at s))
      ∙ ap (λ (r : List ℕ). section_at s at ++ r) (drop-drop (length_at s at) at s ∙ ap (λ (k : ℕ). drop k s) h.up_to)
