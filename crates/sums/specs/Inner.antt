-- What the sums over a block go by: no promise of a call cites it.
use Rattle.std.specs.Prelude.{ℕ, zero, suc, ◌+◌, ◌-◌, ◌≤◌, ◌<◌, ◌≡◌, cond, List, length, take, get_or, leb}
use Rattle.runs.specs.Run.{levels}

-- f 0 + f 1 + .., so many of them
unfoldable pub total : (ℕ → ℕ) → ℕ → ℕ
total f zero = 0
total f (suc m) = total f m + f m

-- what an octet adds where the weight is 1
abbrev pub alone : ℕ → ℕ → ℕ
alone v o = cond (leb o v) 1 (o - v - 1)

-- of a digit or nothing behind the octet o: nothing if that is a level
abbrev pub behind : ℕ → ℕ → ℕ → ℕ
behind v o d = cond (leb o v) 0 d

-- a row has the digits of the first e octets, 0 for a level, and then nothing
abbrev pub Laid : ℕ → List ℕ → ℕ → List ℕ → Type 0
Laid v s e row = ((j : ℕ) → j < e → get_or row j 0 ≡ get_or s j 0 - v - 1) × ((j : ℕ) → e ≤ j → j ≤ 256 → get_or row j 0 ≡ 0)

-- each place of a row has what the next one had, where its own octet is a digit
abbrev pub Shifted : ℕ → List ℕ → List ℕ → List ℕ → Type 0
Shifted v s old row = ((j : ℕ) → j < 256 → get_or row j 0 ≡ behind v (get_or s j 0) (get_or old (j + 1) 0)) × (get_or row 256 0 ≡ get_or old 256 0)

-- the first e octets give so many bins, and a run opens behind them
abbrev pub Fronts : ℕ → List ℕ → ℕ → ℕ → Type 0
Fronts v s e bins = (get_or s 0 0 ≤ v) × (e < length s) × (get_or s e 0 ≤ v) × (bins ≡ length (levels v (take e s)))
