-- What `map_err` makes of a scan: the octet at fault as a refusal's, and all else as it was. By cases of what the scan found.
use Rattle.std.specs.Prelude.{◌≡◌, ℕ, List, Bool, true, false, cond, Result, Ok, Err, MatchResult, ⊤, refl}
use Rattle.std.specs.Result.{IsErrAnd}
use Rattle.octets.proofs.Exits.{passed_on}
use native.Mathlib.Omega.{arith}
use Rattle.runs.specs.Run.{gives, fault_at}
use Rattle.scan.specs.Inner.{scanned}

module _ {F : Type 0} (f : ℕ → F) where
  -- what `map_err` with f says of its result m, of a scan's r
  abbrev pub Mapped : Result ⊤ ℕ → Result ⊤ F → Type 0
  Mapped r m = MatchResult r (λ x. m ≡ Ok x) (λ at. IsErrAnd m (λ y. y ≡ f at))

  by_cases : (b : Bool) (at : ℕ) (m : Result ⊤ F) → Mapped (cond b (Ok tt) (Err at)) m → m ≡ cond b (Ok tt) (Err (f at))
  by_cases true at m is = is
  by_cases false at m is = passed_on m (f at) is

  pub mapped_scan : (v n : ℕ) (s : List ℕ) (r : Result ⊤ ℕ) (m : Result ⊤ F) → r ≡ scanned v n s → Mapped r m → m ≡ cond (gives v n s) (Ok tt) (Err (f (fault_at v n s)))
  mapped_scan v n s r m found is = by_cases (gives v n s) (fault_at v n s) m (rw (← found) is)

  pub found_all : (b : Bool) (at : ℕ) → ◌≡◌ {A = Result ⊤ F} (Ok tt) (cond b (Ok tt) (Err (f at))) → b ≡ true
  found_all true at e = refl
  found_all false at e = absurd (let z : ◌≡◌ {A = ℕ} 0 1 = cc e in omega arith)
