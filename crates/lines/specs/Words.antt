-- The entries that lent words hold, "four to an entry: ray, first bin, length, kind" (FORMAT.md, "Calls").
use Rattle.std.specs.Prelude.{ℕ, zero, suc, ◌+◌, ◌*◌, List, [], ◌∷◌, get_or}
use Rattle.stretches.specs.Stretch.{Entry, per_entry}

-- entry i
abbrev pub entry_in : List ℕ → ℕ → Entry
entry_in ws i =
    record {
      ray = get_or ws (per_entry * i) 0;
      first = get_or ws (per_entry * i + 1) 0;
      len = get_or ws (per_entry * i + 2) 0;
      kind = get_or ws (per_entry * i + 3) 0;
    }

-- n entries from entry i on
unfoldable pub entries_in : List ℕ → ℕ → ℕ → List Entry
entries_in ws i zero = []
entries_in ws i (suc n) = entry_in ws i ∷ entries_in ws (suc i) n
