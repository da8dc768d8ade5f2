-- The numbers of a file's refusals: 1 to 14, and 12 is none of them. By the cases.
use Prim.Native.Nat.{ℕ, ◌≤◌}
use mathlib.Core.Path.{◌≡◌}
use native.Mathlib.Omega.{arith}
use Rattle.sections.specs.Refusal.{number_of}
use Rattle.sections.specs.declared.Why.{Why}
use Rattle.sections.specs.declared.Why.TheVariants.{FileSize, Section0, Frame, SectionLength, Field, Points, Table, Data, CutCount, Argument, Room, Record, Unread}

pub record Numbered (n : ℕ) : Type 0 where
  pub some : 1 ≤ n
  pub few : n ≤ 14
  pub not_twelve : n ≡ 12 → ⊥

pub numbered : (why : Why) → Numbered (number_of why)
numbered FileSize = record { some = omega arith; few = omega arith; not_twelve = λ e. omega arith }
numbered Section0 = record { some = omega arith; few = omega arith; not_twelve = λ e. omega arith }
numbered Frame = record { some = omega arith; few = omega arith; not_twelve = λ e. omega arith }
numbered SectionLength = record { some = omega arith; few = omega arith; not_twelve = λ e. omega arith }
numbered Field = record { some = omega arith; few = omega arith; not_twelve = λ e. omega arith }
numbered Points = record { some = omega arith; few = omega arith; not_twelve = λ e. omega arith }
numbered Table = record { some = omega arith; few = omega arith; not_twelve = λ e. omega arith }
numbered Data = record { some = omega arith; few = omega arith; not_twelve = λ e. omega arith }
numbered CutCount = record { some = omega arith; few = omega arith; not_twelve = λ e. omega arith }
numbered Argument = record { some = omega arith; few = omega arith; not_twelve = λ e. omega arith }
numbered Room = record { some = omega arith; few = omega arith; not_twelve = λ e. omega arith }
numbered Record = record { some = omega arith; few = omega arith; not_twelve = λ e. omega arith }
numbered Unread = record { some = omega arith; few = omega arith; not_twelve = λ e. omega arith }
