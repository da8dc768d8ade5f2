-- FORMAT.md, "Sections" and "Calls": what every file says alike, by the places of its sections.
use Rattle.std.specs.Prelude.{ℕ, List}
use Rattle.octets.specs.Octets.{signed}
use Rattle.rules.specs.Rules.{field}
use Rattle.rules.specs.Fields.{bins_at, rays_at}
use Rattle.sections.specs.declared.Cut.{Cut}
use Rattle.sections.specs.declared.Time.{Time}
use Rattle.sections.specs.declared.Grid.{Grid}

-- Nb and Nr, of its section 3
unfoldable pub bins_in : List ℕ → Cut → ℕ
bins_in s c = bins_at s c.section3

unfoldable pub rays_in : List ℕ → Cut → ℕ
rays_in s c = rays_at s c.section3

-- the time stands in section 1, at place 16
unfoldable pub time_of : List ℕ → Time
time_of s =
    record {
      year = field s 16 13 2;
      month = field s 16 15 1;
      day = field s 16 16 1;
      hour = field s 16 17 1;
      minute = field s 16 18 1;
      second = field s 16 19 1;
    }

-- "Nb, Nr, latitude, longitude, Dx, Dstart", of the section 3 at a place
unfoldable pub grid_at : List ℕ → ℕ → Grid
grid_at s at =
    record {
      nb = bins_at s at;
      nr = rays_at s at;
      latitude = signed 4 (field s at 23 4);
      longitude = field s at 27 4;
      dx = field s at 31 4;
      dstart = field s at 35 4;
    }
