-- What has been seen of a file before a place: the sections passed, the last of them first; and what FORMAT.md, "Sections", asks of them.
use Rattle.std.specs.Prelude.{ℕ, ◌+◌, List, [], ◌∷◌, ◌++◌, cond, eqb}
use Rattle.rules.specs.Fields.{number_at}
use Rattle.sections.specs.declared.Context.{Context}
use Rattle.sections.specs.declared.Cut.{Cut}

-- a section that was passed
pub record Seen : Type 0 where
  pub number : ℕ
  pub place : ℕ

-- the section at a place, once it is passed
abbrev pub seen_at : List ℕ → ℕ → Seen
seen_at s at = record { number = number_at s at; place = at }

-- the number of the section before: 0 after section 0
abbrev pub previous : List Seen → ℕ
previous [] = 0
previous (x ∷ xs) = x.number

-- the place of the section of number n last seen; 0 where there was none
unfoldable pub last_seen : ℕ → List Seen → ℕ
last_seen n [] = 0
last_seen n (x ∷ xs) = cond (eqb x.number n) x.place (last_seen n xs)

-- the place of the first section of number n; d where there was none
unfoldable pub first_seen : ℕ → ℕ → List Seen → ℕ
first_seen n d [] = d
first_seen n d (x ∷ xs) = first_seen n (cond (eqb x.number n) x.place d) xs

-- each section 7 ends a cut, of the sections 3, 4 and 5 last seen before it
unfoldable pub cuts_of : List Seen → List Cut
cuts_of [] = []
cuts_of (x ∷ xs) =
    cond (eqb x.number 7)
    (cuts_of xs ++ (record { section3 = last_seen 3 xs; section4 = last_seen 4 xs; section5 = last_seen 5 xs; section7 = x.place } ∷ []))
    (cuts_of xs)

-- how many there were
unfoldable pub cuts_seen : List Seen → ℕ
cuts_seen [] = 0
cuts_seen (x ∷ xs) = cond (eqb x.number 7) (cuts_seen xs + 1) (cuts_seen xs)

-- what the checks at a place go by; the first section 4 is its own first
unfoldable pub context_of : List Seen → ℕ → Context
context_of seen at =
    record {
      previous = previous seen;
      cuts = cuts_seen seen;
      first = first_seen 4 at seen;
      section3 = last_seen 3 seen;
      section4 = last_seen 4 seen;
      section5 = last_seen 5 seen;
    }
