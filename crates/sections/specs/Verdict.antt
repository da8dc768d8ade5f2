-- The verdict on any octets by a format's own checks, to compute: FORMAT.md, "Order of checks": 1, 2, then section by section.
use Rattle.std.specs.Prelude.{ℕ, zero, suc, ◌+◌, ◌-◌, List, [], ◌∷◌, Bool, cond, ◌&&◌, length, leb, eqb, Err, Ok, Result, ⊤}
use Rattle.rules.specs.Rules.{meets_all, rules0}
use Rattle.rules.specs.Fields.{length_at}
use Rattle.sections.specs.Checks.{Check, check, FormatChecks, checks_at}
use Rattle.sections.specs.History.{Seen, seen_at, context_of, cuts_of}
use Rattle.sections.specs.declared.Cut.{Cut}
use Rattle.sections.specs.declared.Refusal.{Refusal}
use Rattle.sections.specs.Refusal.{refuse}
use Rattle.sections.specs.declared.Why.TheVariants.{FileSize, Section0, Frame}

-- accepted, with the cuts, by the places of their sections; or refused
pub data Verdict : Type 0 where
  accepted : List Cut → Verdict
  refused : Refusal → Verdict

-- the first check that fails
abbrev pub first_fault : List Check → Result ⊤ Refusal
first_fault [] = Ok tt
first_fault (check r ok ∷ cs) = cond ok (first_fault cs) (Err r)

abbrev pub if_accepted : Result ⊤ Refusal → Verdict → Verdict
if_accepted (Ok tt) v = v
if_accepted (Err r) v = refused r

-- section after section up to `end`, the place of the last four octets, from a place on. A file has fewer sections than octets: the first argument
-- is never used up
unfoldable pub sections : FormatChecks → ℕ → List ℕ → ℕ → List Seen → ℕ → Verdict
sections own zero s end seen at = refused (refuse Frame at)
sections own (suc n) s end seen at =
    if_accepted (first_fault (checks_at own s end (context_of seen at) at))
    (cond (eqb at end) (accepted (cuts_of seen)) (sections own n s end (seen_at s at ∷ seen) (at + length_at s at)))

-- the place of the last four octets
abbrev pub end_of : List ℕ → ℕ
end_of s = length s - 4

unfoldable pub sized : List ℕ → Bool
sized s = leb 20 (length s) && leb (length s) 8388608

-- 1, 2, then section by section, the first of them after the 16 octets of section 0
unfoldable pub verdict_by : FormatChecks → List ℕ → Verdict
verdict_by own s =
    cond (sized s)
    (cond (meets_all s 0 (rules0 (length s))) (sections own (length s) s (end_of s) [] 16) (refused (refuse Section0 0)))
    (refused (refuse FileSize 0))

abbrev pub default_cut : Cut
default_cut = record { section3 = 0; section4 = 0; section5 = 0; section7 = 0 }
