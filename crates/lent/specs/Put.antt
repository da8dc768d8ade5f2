-- What a function does that puts octets at a place of lent octets and answers the place past them.
use Rattle.std.specs.Prelude.{ℕ, ◌+◌, ◌≤◌, ◌≡◌, List, length}
use Rattle.lent.specs.Lent.{placed}

pub record Put (before : List ℕ) (at : ℕ) (octets after : List ℕ) (next : ℕ) : Type 0 where
  pub there : after ≡ placed before at octets
  pub past : next ≡ at + length octets
  pub inside : next ≤ length before
