-- FORMAT.md, "Calls" and "Refusals": what run read and run check answer, and what the lent levels then hold.
use Rattle.std.specs.Prelude.{ℕ, ◌≡◌, List, cond, length, ltb, Err, Ok, Result, ⊤}
use Rattle.runs.specs.Run.{levels, gives, fault_at}
use Rattle.lent.specs.Lent.{front}
use Rattle.bare.specs.declared.ReadRefusal.{ReadRefusal}
use Rattle.bare.specs.declared.ReadRefusal.TheVariants as F
use Rattle.bare.specs.declared.CheckRefusal.{CheckRefusal}
use Rattle.bare.specs.declared.CheckRefusal.TheVariants as C

-- "n levels at the front of a lent buffer"; "Run read: 12, 10, 11, 8"
unfoldable pub read_answer : ℕ → ℕ → ℕ → List ℕ → Result ⊤ ReadRefusal
read_answer v n room s =
    cond (ltb 253 v) (Err F.V)
    (cond (ltb 2097152 n) (Err F.Argument)
    (cond (ltb room n) (Err F.Room)
    (cond (gives v n s) (Ok tt) (Err (F.Data (fault_at v n s))))))

-- the lent levels d after it, p what the octets give: a refusal "changes no lent memory"
abbrev pub read_out : Result ⊤ ReadRefusal → List ℕ → List ℕ → List ℕ
read_out (Ok tt) p d = front p d
read_out (Err why) p d = d

-- the promise of run read, s the octets and d the lent levels before it: the answer, and the lent levels after it
pub record ReadPromise (v n : ℕ) (s d : List ℕ) (answer : Result ⊤ ReadRefusal) (out : List ℕ) : Type 0 where
  pub answered : answer ≡ read_answer v n (length d) s
  pub held : out ≡ read_out answer (levels v s) d

-- "A refusal returns its number and a place", which is 0 for the bare run calls but for 8: there it is that of the octet at fault
abbrev pub read_number : ReadRefusal → ℕ
read_number F.V = 12
read_number F.Argument = 10
read_number F.Room = 11
read_number (F.Data at) = 8

abbrev pub read_place : ReadRefusal → ℕ
read_place F.V = 0
read_place F.Argument = 0
read_place F.Room = 0
read_place (F.Data at) = at

-- run check: what run read would find, with nothing lent: 12, 10, 8
unfoldable pub check_answer : ℕ → ℕ → List ℕ → Result ⊤ CheckRefusal
check_answer v n s =
    cond (ltb 253 v) (Err C.V)
    (cond (ltb 2097152 n) (Err C.Argument)
    (cond (gives v n s) (Ok tt) (Err (C.Data (fault_at v n s)))))

-- the promise of run check
pub record CheckPromise (v n : ℕ) (s : List ℕ) (answer : Result ⊤ CheckRefusal) : Type 0 where
  pub answered : answer ≡ check_answer v n s

abbrev pub check_number : CheckRefusal → ℕ
check_number C.V = 12
check_number C.Argument = 10
check_number (C.Data at) = 8

abbrev pub check_place : CheckRefusal → ℕ
check_place C.V = 0
check_place C.Argument = 0
check_place (C.Data at) = at
