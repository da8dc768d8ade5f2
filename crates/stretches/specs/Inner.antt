-- What the crate's own functions ask of each other and leave: no promise of a call cites these.
use Rattle.std.specs.Prelude.{ℕ, ◌*◌, ◌≤◌, ◌<◌, ◌≡◌, Bool, true, ◌&&◌, List, leb, ltb, get_or}
use Rattle.runs.specs.Run.{gives}
use Rattle.stretches.specs.Stretch.{KindOfLevel}

-- a scale by a table of kinds
abbrev pub kind_by_table : List ℕ → KindOfLevel
kind_by_table ks = record { kind = λ l. get_or ks l 0 }

-- a cut's data: nr rays of nb bins, run-length coded under v
pub record CutData (v nb nr : ℕ) (xs : List ℕ) : Type 0 where
  pub v_le : v ≤ 253
  pub nb_pos : 0 < nb
  pub nb_le : nb ≤ 2048
  pub nr_le : nr ≤ 1024
  pub given : gives v (nr * nb) xs ≡ true

-- a stretch from place s up to place p is one to list: it begins at place q or past it, and has a bin
unfoldable pub must_list : ℕ → ℕ → ℕ → Bool
must_list q s p = leb q s && ltb s p
