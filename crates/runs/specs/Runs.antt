-- FORMAT.md, "Run-length rule", said as a relation built from runs. proofs/Meaning.antt: it holds exactly of what `levels` gives.
use Rattle.std.specs.Prelude.{ℕ, ◌+◌, ◌-◌, ◌*◌, ◌^◌, ◌≤◌, ◌<◌, ◌≡◌, List, [], ◌∷◌, ◌++◌, length, replicate, take}
use Rattle.runs.specs.Run.{base}

-- octets above V: digits
pub data Digits (v : ℕ) : List ℕ → Type 0 where
  no_digit : Digits v []
  digit : {o : ℕ} {ds : List ℕ} → v < o → Digits v ds → Digits v (o ∷ ds)

-- digit j, which is its octet - V - 1, times B^(k + j), added up
unfoldable pub sum_from : ℕ → ℕ → List ℕ → ℕ
sum_from v k [] = 0
sum_from v k (o ∷ ds) = (o - v - 1) * base v ^ k + sum_from v (k + 1) ds

-- Octets stand for levels under V. No octets stand for none; a level, its digits and octets that stand for levels themselves (so that they
-- do not open with a digit) stand for the level 1 + the digits' sum times, and then for those levels
pub data Decodes (v : ℕ) : List ℕ → List ℕ → Type 0 where
  no_run : Decodes v [] []
  run : {x : ℕ} {ds s ls : List ℕ} → x ≤ v → Digits v ds → Decodes v s ls → Decodes v (x ∷ (ds ++ s)) (replicate (1 + sum_from v 0 ds) x ++ ls)

-- octets stand for exactly n levels
pub record Exactly (v n : ℕ) (s : List ℕ) : Type 0 where
  pub row : List ℕ
  pub decodes : Decodes v s row
  pub count : length row ≡ n

-- "The octet at fault", of octets that are to stand for exactly n levels under V; proofs/Fault.antt: there is one exactly where they do not, and only one
pub data AtFault (v n : ℕ) (s : List ℕ) : ℕ → Type 0 where
  -- "the first data octet if it is above V"
  above : {o : ℕ} {t : List ℕ} → s ≡ o ∷ t → v < o → AtFault v n s 0
  -- "the level or digit octet at which the bins are first passed": the first i + 1 octets stand for more than n levels, and no fewer octets do
  passed : {i m : ℕ} → Exactly v m (take (i + 1) s) → n < m → ((j k : ℕ) → j < i → Exactly v k (take (j + 1) s) → k ≤ n) → AtFault v n s i
  -- "one past the data if there are too few"
  too_few : {m : ℕ} → Exactly v m s → m < n → AtFault v n s (length s)
