-- What the functions over runs ask of each other and leave: no promise of a call cites these.
use Rattle.std.specs.Prelude.{ℕ, ◌+◌, ◌≤◌, ◌<◌, ◌≡◌, List, [], ◌∷◌, true, cond, length, drop, get_or, leb, eqb, None, Option, Some}
use Rattle.runs.specs.Run.{levels, opens, run_len}
use Rattle.runs.specs.declared.RunInHand.{RunInHand}
use Rattle.runs.specs.declared.Run.{Run}

-- how many digits stand at the front
unfoldable pub digit_count : ℕ → List ℕ → ℕ
digit_count v [] = 0
digit_count v (o ∷ s) = cond (leb o v) 0 (1 + digit_count v s)

-- the place past the digits of the run that the octet at a place opens
abbrev pub run_next : ℕ → List ℕ → ℕ → ℕ
run_next v s at = at + 1 + digit_count v (drop (at + 1) s)

-- the step where the run is known: the end where nothing is left to want
unfoldable pub known_step : ℕ → ℕ → List ℕ → ℕ → Option Run
known_step v left s at = cond (eqb left 0) None (Some (record { level = get_or s at 0; len = run_len v s at; next = run_next v s at }))

-- the step over any octets, cut off at what is left to want: the end where that is nothing, or the octets end
unfoldable pub cut_step : ℕ → ℕ → List ℕ → ℕ → Option Run
cut_step v left s at =
    cond (eqb left 0) None
    (cond (leb (length s) at) None
    (cond (leb (run_len v s at) left) (Some (record { level = get_or s at 0; len = run_len v s at; next = run_next v s at })) (Some (record { level = get_or s at 0; len = left; next = at }))))

-- where reading stands: `bins` of the levels were read, and those of the octets from `at` on come after them
pub record Stands (v : ℕ) (s : List ℕ) (at bins : ℕ) : Type 0 where
  pub within : bins ≤ length (levels v s)
  pub rest : drop bins (levels v s) ≡ levels v (drop at s)
  pub opened : opens v (drop at s) ≡ true

-- reading stands past the run in hand, and, where there is one, it stands at it
pub record InHand (v : ℕ) (s : List ℕ) (hand : RunInHand) : Type 0 where
  pub past : Stands v s hand.next hand.end
  pub held : hand.bins < hand.end → Stands v s hand.at hand.bins × (hand.end ≡ hand.bins + run_len v s hand.at)

-- the run in hand holds bin a of what the octets give
pub record Holds (v : ℕ) (s : List ℕ) (a : ℕ) (hand : RunInHand) : Type 0 where
  pub is : InHand v s hand
  pub before : hand.bins ≤ a
  pub inside : a < hand.end
