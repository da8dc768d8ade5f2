-- From one cut of a file to the next, section after section.
use Rattle.std.specs.Prelude.{ℕ, ◌+◌, List, cond, eqb}
use Rattle.rules.specs.Fields.{length_at, number_at}
use Rattle.sections.specs.declared.Cut.{Cut}

-- the place past the section at a place
abbrev pub end_at : List ℕ → ℕ → ℕ
end_at s at = at + length_at s at

-- 4 5 6 7 from a place on, under a section 3
abbrev pub body_at : List ℕ → ℕ → ℕ → Cut
body_at s s3 s4 = record { section3 = s3; section4 = s4; section5 = end_at s s4; section7 = end_at s (end_at s (end_at s s4)) }

-- "A cut is 3 4 5 6 7, or 4 5 6 7 under the section 3 last seen"
unfoldable pub cut_after : List ℕ → Cut → Cut
cut_after s c =
    body_at s (cond (eqb (number_at s (end_at s c.section7)) 3) (end_at s c.section7) c.section3)
    (cond (eqb (number_at s (end_at s c.section7)) 3) (end_at s (end_at s c.section7)) (end_at s c.section7))
