-- FORMAT.md, "Refusals" and "Order of checks": the checks at a place, in that order: 3, 9, then those of the section's own kind, of
-- which sections 3, 4, 5 and 7 are the format's.
use Rattle.std.specs.Prelude.{ℕ, ◌+◌, List, [], ◌∷◌, Bool, cond, ◌&&◌, ◌||◌, not, leb, eqb}
use Rattle.rules.specs.Rules.{meets_all, rules1, rules6, rules8}
use Rattle.rules.specs.Fields.{length_at, number_at}
use Rattle.sections.specs.declared.Context.{Context}
use Rattle.sections.specs.declared.Refusal.{Refusal}
use Rattle.sections.specs.Refusal.{refuse}
use Rattle.sections.specs.declared.Why.TheVariants.{Frame, SectionLength, Field, CutCount}

-- the order of sections: 0 1, then cuts of 3 4 5 6 7, or 4 5 6 7 after the first
unfoldable pub follows : ℕ → ℕ → Bool
follows p n =
    (eqb p 0 && eqb n 1)
    || (eqb p 1 && eqb n 3)
    || (eqb p 3 && eqb n 4)
    || (eqb p 4 && eqb n 5)
    || (eqb p 5 && eqb n 6)
    || (eqb p 6 && eqb n 7)
    || (eqb p 7 && (eqb n 3 || eqb n 4))

-- 3: five octets are left before `end`, the place of the last four; the length is 5 or more and does not reach into those; the number is allowed here
unfoldable pub framed : List ℕ → ℕ → Context → ℕ → Bool
framed s end x at =
    leb (at + 5) end && (leb 5 (length_at s at) && (leb (at + length_at s at) end && follows x.previous (number_at s at)))

-- 9: no 3 or 4 begins a 65th cut. (A 4 after a 3 begins none: its cut has begun.)
unfoldable pub room_for_cut : List ℕ → Context → ℕ → Bool
room_for_cut s x at = not (leb 64 x.cuts && (eqb (number_at s at) 3 || eqb (number_at s at) 4))

-- a check: the refusal where it fails, and what must hold
pub data Check : Type 0 where
  check : Refusal → Bool → Check

-- the sections that every format has: 1 and 6

abbrev pub checks1 : List ℕ → ℕ → List Check
checks1 s at = check (refuse SectionLength at) (eqb (length_at s at) 21) ∷ check (refuse Field at) (meets_all s at rules1) ∷ []

abbrev pub checks6 : List ℕ → ℕ → List Check
checks6 s at = check (refuse SectionLength at) (eqb (length_at s at) 6) ∷ check (refuse Field at) (meets_all s at rules6) ∷ []

-- a format's own: the checks of its sections 3, 4, 5 and 7, by the section's number
abbrev pub FormatChecks : Type 0
FormatChecks = List ℕ → Context → ℕ → ℕ → List Check

unfoldable pub section_checks : FormatChecks → FormatChecks
section_checks own s x at n =
    cond (eqb n 1) (checks1 s at)
    (cond (eqb n 6) (checks6 s at) (own s x at n))

-- at the last four octets: `7777`, after a 7
unfoldable pub closes : List ℕ → Context → ℕ → Bool
closes s x at = eqb x.previous 7 && meets_all s at rules8

-- all the checks at a place: of the last four octets, or of the section there
unfoldable pub checks_at : FormatChecks → List ℕ → ℕ → Context → ℕ → List Check
checks_at own s end x at =
    cond (eqb at end)
    (check (refuse Frame at) (closes s x at) ∷ [])
    (check (refuse Frame at) (framed s end x at) ∷ check (refuse CutCount at) (room_for_cut s x at) ∷ section_checks own s x at (number_at s at))
