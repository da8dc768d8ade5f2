-- FORMAT.md, "Run-length rule": what octets mean under V (template 7.200). This is the one definition of decoding.
use Rattle.std.specs.Prelude.{ℕ, zero, suc, ◌+◌, ◌-◌, ◌*◌, ◌^◌, List, [], ◌∷◌, ◌++◌, Bool, true, false, cond, length, replicate, take, drop, leb, ltb, eqb}

-- "Let B = 255 - V"
abbrev pub base : ℕ → ℕ
base v = 255 - v

-- "Octets above V that follow are digits (octet - V - 1), least first, base B": of the digits at the front, the sum of digit j times B^(k + j)
unfoldable pub digit_sum : ℕ → ℕ → List ℕ → ℕ
digit_sum v k [] = 0
digit_sum v k (o ∷ s) = cond (leb o v) 0 ((o - v - 1) * base v ^ k + digit_sum v (k + 1) s)

-- "An octet up to V is a level and opens a run. Run length = 1 + the sum of digit k times B^k, k from 0". A digit opens no run
unfoldable pub levels : ℕ → List ℕ → List ℕ
levels v [] = []
levels v (o ∷ s) = cond (leb o v) (replicate (1 + digit_sum v 0 s) o ++ levels v s) (levels v s)

-- the data does not open above V
abbrev pub opens : ℕ → List ℕ → Bool
opens v [] = true
opens v (o ∷ s) = leb o v

-- the octets follow the rule and give exactly n bins
unfoldable pub gives : ℕ → ℕ → List ℕ → Bool
gives v n s = cond (opens v s) (eqb (length (levels v s)) n) false

-- the least i, of the k from i on, such that the first i + 1 octets give more than n bins; i + k where there is none
unfoldable pub passed_from : ℕ → ℕ → List ℕ → ℕ → ℕ → ℕ
passed_from v n s i zero = i
passed_from v n s i (suc k) = cond (ltb n (length (levels v (take (i + 1) s)))) i (passed_from v n s (i + 1) k)

-- the octet at fault where they do not: the first if it is above V; that at which the bins are first passed; one past the last if there are too few
unfoldable pub fault_at : ℕ → ℕ → List ℕ → ℕ
fault_at v n s = cond (opens v s) (passed_from v n s 0 (length s)) 0

-- the length of the run that the octet at a place opens
abbrev pub run_len : ℕ → List ℕ → ℕ → ℕ
run_len v s at = 1 + digit_sum v 0 (drop (at + 1) s)
