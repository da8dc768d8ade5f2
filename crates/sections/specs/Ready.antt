-- What a format's checks of a section 7 may go by, of the sections before it: no part of what a reader must believe, as the verdict says nothing of it.
use Rattle.std.specs.Prelude.{ℕ, ◌≡◌, List}
use Rattle.sections.specs.Checks.{FormatChecks}
use Rattle.sections.specs.History.{Seen, previous, context_of}
use Rattle.sections.specs.Refused.{Passed}
use Rattle.sections.specs.declared.Context.{Context}

abbrev pub Needs : Type 1
Needs = List ℕ → Context → Type 0

-- where the sections before a 7 have passed, it is so
abbrev pub ReadyBefore7 : FormatChecks → Needs → Type 0
ReadyBefore7 own Ready = (s : List ℕ) (end : ℕ) (seen : List Seen) (at : ℕ) → Passed own s end seen at → previous seen ≡ 6 → Ready s (context_of seen at)
