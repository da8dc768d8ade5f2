-- The worked output of FORMAT.md, "The lister", is what the definitions give for its numbers.
use mathlib.Core.Path.{◌≡◌, refl}
use mathlib.Core.List.{[], ◌∷◌, ◌++◌}
use Rattle.lent.specs.Ascii.{ascii}
use Rattle.kinds.specs.KindTable.{kind_by}
use Rattle.lines.specs.Text.{spelled, decimal, entry_line, entry_lines, head_line, end_line}

sample : head_line 0 1 5 2 4000
    ++ (entry_lines
    (record { ray = 0; first = 0; len = 2; kind = 0 }
    ∷ record { ray = 0; first = 2; len = 3; kind = 2 }
    ∷ record { ray = 1; first = 0; len = 1; kind = 2 }
    ∷ record { ray = 1; first = 1; len = 3; kind = 1 }
    ∷ record { ray = 1; first = 4; len = 1; kind = 0 }
    ∷ [])
    ++ end_line 5)
    ≡ ascii "cut 0 product 1 bins 5 rays 2 threshold 4000\n0 0 2 missing\n0 2 3 over\n1 0 1 over\n1 1 3 under\n1 4 1 missing\nend 5\n"
unfolding spelled decimal kind_by entry_line entry_lines head_line end_line
sample = refl
