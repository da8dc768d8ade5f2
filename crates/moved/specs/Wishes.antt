-- FORMAT.md, "To come", smaller file: the file of the chosen cuts.
use Rattle.std.specs.Prelude.{ℕ, zero, suc, ◌+◌, List, [], ◌∷◌, map, take}
use Rattle.sections.specs.Accepted.{section_at}
use Rattle.sections.specs.declared.Cut.{Cut}
use Rattle.files.specs.File.{parts_at}
use Rattle.files.specs.Smaller.{chosen, cuts_after, assembled}

-- so many numbers from k on: those of the cuts of a file, from 0
abbrev pub count_from : ℕ → ℕ → List ℕ
count_from k zero = []
count_from k (suc n) = k ∷ count_from (k + 1) n

-- the file of the chosen cuts: its sections 0 and 1 as they were but for the total
abbrev pub smaller_of : List ℕ → List Cut → ℕ → List ℕ
smaller_of s cs w = assembled (take 16 s) (section_at s 16) (cuts_after [] (map (parts_at s) (chosen w cs)))
