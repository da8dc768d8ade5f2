-- FORMAT.md, "Run-length rule": the octets that are written for levels.
use Rattle.std.specs.Prelude.{ℕ, zero, suc, ◌+◌, ◌/◌, ◌%◌, max, List, [], ◌∷◌, ◌++◌, map, cond, eqb}
use Rattle.runs.specs.Run.{base}

-- "The writer takes V as the greatest level (0 for no levels)"
unfoldable pub greatest : List ℕ → ℕ
greatest [] = 0
greatest (x ∷ s) = max x (greatest s)

-- the digits of m in base b, least first; it "ends digits with a non-zero one", so there are none for 0. The first argument bounds how many
unfoldable pub digits_up_to : ℕ → ℕ → ℕ → List ℕ
digits_up_to zero b m = []
digits_up_to (suc f) b m = cond (eqb m 0) [] ((m % b) ∷ digits_up_to f b (m / b))

-- as many as there are: m has at most m digits
unfoldable pub digits_of : ℕ → ℕ → List ℕ
digits_of b m = digits_up_to m b m

-- a run of x that is k + 1 long: the level, then k by digits (octet - V - 1)
unfoldable pub code : ℕ → ℕ → ℕ → List ℕ
code v x k = x ∷ map (λ (d : ℕ). v + 1 + d) (digits_of (base v) k)

-- "makes each run as long as it can be": on from a run of x that is k + 1 long so far, it goes on while the level is the same
unfoldable pub on_from : ℕ → ℕ → ℕ → List ℕ → List ℕ
on_from v x k [] = code v x k
on_from v x k (y ∷ s) = cond (eqb y x) (on_from v x (k + 1) s) (code v x k ++ on_from v y 0 s)

-- the octets for a row of levels
unfoldable pub written : ℕ → List ℕ → List ℕ
written v [] = []
written v (x ∷ s) = on_from v x 0 s

-- what run write writes: V is the greatest level
abbrev pub packed : List ℕ → List ℕ
packed s = written (greatest s) s
