-- What the crate's own functions ask of each other and leave: the run at a record's octet; the walk over the runs of accepted data, ray by ray, that makes the records.
use Rattle.std.specs.Prelude.{ℕ, ◌+◌, ◌-◌, ◌*◌, ◌≤◌, ◌<◌, ◌≡◌, Bool, ◌&&◌, List, length, take, drop, get_or, leb, ltb}
use Rattle.runs.specs.Run.{levels, run_len}
use Rattle.runs.specs.Inner.{InHand}
use Rattle.index.specs.declared.Pace.{Pace}
use Rattle.index.specs.Index.{record_of}

-- a level octet stands at the front, and its run has more bins than so many
unfoldable pub longer_run : ℕ → List ℕ → ℕ → Bool
longer_run v s n = ltb 0 (length s) && (leb (get_or s 0 0) v && ltb n (run_len v s 0))

-- the data in the octets lent
abbrev pub data_in : List ℕ → Pace → List ℕ
data_in s p = take (p.to - p.from) (drop p.from s)

-- the next ray does not begin before that run
pub record Along (d : List ℕ) (p : Pace) : Type 0 where
  pub low : p.v ≤ 253
  pub few : length (levels p.v d) ≤ 2097152
  pub short : length d ≤ 4294967295
  pub ray : p.nb ≤ 2097152
  pub before : p.hand.bins ≤ p.bin
  pub run : InHand p.v d p.hand

-- one ray on
pub record Onward (d : List ℕ) (p r : Pace) : Type 0 where
  pub along : Along d r
  pub same_from : r.from ≡ p.from
  pub same_to : r.to ≡ p.to
  pub same_v : r.v ≡ p.v
  pub same_nb : r.nb ≡ p.nb
  pub bin : r.bin ≡ p.bin + p.nb
  pub rec : r.rec ≡ record_of p.v d 0 p.bin

-- the same in the octets lent, with n rays to come
pub record Going (s : List ℕ) (p : Pace) (n : ℕ) : Type 0 where
  pub order : p.from ≤ p.to
  pub reach : p.to ≤ length s
  pub along : Along (data_in s p) p
  pub left : (k : ℕ) → k < n → p.bin + k * p.nb < length (levels p.v (data_in s p))
