-- What the scan finds: no promise of a call cites it.
use Rattle.std.specs.Prelude.{ℕ, ◌+◌, List, cond, Err, Ok, Result, ⊤}
use Rattle.runs.specs.Run.{gives, fault_at}

-- what a scan for n bins finds: exactly these, or the octet at fault
abbrev pub scanned : ℕ → ℕ → List ℕ → Result ⊤ ℕ
scanned v n s = cond (gives v n s) (Ok tt) (Err (fault_at v n s))

-- the same of octets that stand k places on
abbrev pub moved : ℕ → Result ⊤ ℕ → Result ⊤ ℕ
moved k (Ok tt) = Ok tt
moved k (Err i) = Err (k + i)
