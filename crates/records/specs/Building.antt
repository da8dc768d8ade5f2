-- What index building goes by: no promise of a call cites it.
use Rattle.std.specs.Prelude.{ℕ, ◌+◌, List}
use Rattle.rules.specs.Fields.{length_at}
use Rattle.index.specs.declared.Pace.{Pace}
use Rattle.sections.specs.Parts.{bins_in}
use Rattle.sections.specs.declared.Cut.{Cut}
use Rattle.base_format.specs.Parts.{greatest_in}

-- the walk before the first ray of a cut
abbrev pub start_in : List ℕ → Cut → Pace
start_in s c = record {
  rec = record { offset = 0; before = 0 };
  from = c.section7 + 5;
  to = c.section7 + length_at s c.section7;
  v = greatest_in s c;
  nb = bins_in s c;
  bin = 0;
  hand = record { at = 0; bins = 0; end = 0; next = 0 };
}
