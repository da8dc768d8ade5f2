-- FORMAT.md, "Refusals" and "Order of checks", as they stand there: which files are refused, by which number and at which place,
-- by a format's own checks.
use Rattle.std.specs.Prelude.{ℕ, ◌+◌, ◌≤◌, ◌≡◌, List, [], ◌∷◌, Bool, true, false, length}
use Rattle.rules.specs.Rules.{meets_all, rules0}
use Rattle.rules.specs.Fields.{length_at}
use Rattle.sections.specs.Refusal.{number_of, refuse}
use Rattle.sections.specs.Checks.{Check, check, FormatChecks, checks_at}
use Rattle.sections.specs.History.{Seen, seen_at, context_of}
use Rattle.sections.specs.Verdict.{end_of}
use Rattle.sections.specs.declared.Refusal.{Refusal}
use Rattle.sections.specs.declared.Why.{Why}
use Rattle.sections.specs.declared.Why.TheVariants.{FileSize, Section0}

-- every check holds
abbrev pub AllHold : List Check → Type 0
AllHold [] = Unit {0}
AllHold (check r ok ∷ cs) = (ok ≡ true) × AllHold cs

-- of these checks, that of refusal r is the first that fails
pub data FirstFails (r : Refusal) : List Check → Type 0 where
  this : {ok : Bool} {cs : List Check} → ok ≡ false → FirstFails r (check r ok ∷ cs)
  later : {q : Refusal} {ok : Bool} {cs : List Check} → ok ≡ true → FirstFails r cs → FirstFails r (check q ok ∷ cs)

-- the sections before a place, from the end of section 0 on, pass; `seen` are these sections
pub data Passed (own : FormatChecks) (s : List ℕ) (end : ℕ) : List Seen → ℕ → Type 0 where
  first : Passed own s end [] 16
  then : {seen : List Seen} {at : ℕ}
      → Passed own s end seen at → (at ≡ end → ⊥) → AllHold (checks_at own s end (context_of seen at) at)
      → Passed own s end (seen_at s at ∷ seen) (at + length_at s at)

-- 20 to 8,388,608 octets
pub record RightSize (s : List ℕ) : Type 0 where
  pub small : 20 ≤ length s
  pub large : length s ≤ 8388608

-- 1; or 2; or the sections before a place pass, and of the checks there, in that order, one is the first that fails
pub data RefusedBy (own : FormatChecks) (s : List ℕ) : Refusal → Type 0 where
  size : (RightSize s → ⊥) → RefusedBy own s (refuse FileSize 0)
  head : RightSize s → meets_all s 0 (rules0 (length s)) ≡ false → RefusedBy own s (refuse Section0 0)
  section : {seen : List Seen} {at : ℕ} {r : Refusal}
      → RightSize s → meets_all s 0 (rules0 (length s)) ≡ true
      → Passed own s (end_of s) seen at → FirstFails r (checks_at own s (end_of s) (context_of seen at) at) → RefusedBy own s r

-- the same by number and place
pub record RefusedAt (own : FormatChecks) (s : List ℕ) (n p : ℕ) : Type 0 where
  pub why : Why
  pub refused : RefusedBy own s (refuse why p)
  pub number : number_of why ≡ n
