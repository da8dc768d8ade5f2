-- What the promises of run read and run check leave in lent memory, that they leave one outcome, and that run check answers as run read would. When they answer is said in Reasons.antt.
use Prim.Native.Nat.{ℕ, ◌≤◌}
use mathlib.Core.Path.{◌≡◌, refl, sym, ap, ◌∙◌}
use mathlib.Core.Bool.{Bool, true, false, cond}
use mathlib.Core.List.{List}
use lib.Dec.{ltb}
use borrow.Author.Tests.{le-ltb}
use Rattle.runs.specs.Run.{levels, gives, fault_at}
use Rattle.runs.specs.Runs.{Decodes}
use Rattle.lent.specs.Lent.{front}
use Rattle.bare.specs.Read.{read_answer, read_out, ReadPromise, check_answer, CheckPromise}
use Rattle.bare.specs.declared.ReadRefusal.{ReadRefusal}
use Rattle.bare.specs.declared.ReadRefusal.TheVariants as F
use Rattle.bare.specs.declared.CheckRefusal.TheVariants as C
use Rattle.runs.proofs.Meaning.{decodes_levels}
use Rattle.bare.specs.declared.CheckRefusal.{CheckRefusal}
use Rattle.std.specs.Prelude.{Err, Ok, Result, ⊤}

-- ---- run read
module _ {v n : ℕ} {s d out : List ℕ} {answer : Result ⊤ ReadRefusal} (p : ReadPromise v n s d answer out) where
  -- where it reads, what stands in front is what the octets stand for
  pub read_levels : answer ≡ (Ok tt) → (ls : List ℕ) → Decodes v s ls → out ≡ front ls d
  read_levels e ls x =
      p.held ∙ (λ i. read_out (e i) (sym (decodes_levels x).1 i) d)

  -- a refusal changes nothing
  pub read_refused : (why : ReadRefusal) → answer ≡ Err why → out ≡ d
  read_refused why e = p.held ∙ ap (λ (r : Result ⊤ ReadRefusal). read_out r (levels v s) d) e

-- two outcomes that the promise allows are equal
pub read_one : {v n : ℕ} {s d out out' : List ℕ} {r r' : Result ⊤ ReadRefusal} → ReadPromise v n s d r out → ReadPromise v n s d r' out' → (r ≡ r') × (out ≡ out')
read_one {v} {n} {s} {d} p q =
    let same = p.answered ∙ sym q.answered in
    (same, p.held ∙ ap (λ (r : Result ⊤ ReadRefusal). read_out r (levels v s) d) same ∙ sym q.held)

-- ---- run check: what run read would find
-- an answer of run read where room is no matter
unfoldable pub as_check : Result ⊤ ReadRefusal → Result ⊤ CheckRefusal
as_check (Ok tt) = Ok tt
as_check (Err F.V) = Err C.V
as_check (Err F.Argument) = Err C.Argument
as_check (Err F.Room) = Ok tt
as_check (Err (F.Data at)) = Err (C.Data at)

by_test : (a b c : Bool) (at : ℕ) →
    as_check (cond a (Err F.V) (cond b (Err F.Argument) (cond c (Ok tt) (Err (F.Data at))))) ≡ cond a (Err C.V) (cond b (Err C.Argument) (cond c (Ok tt) (Err (C.Data at))))
unfolding as_check
by_test true b c at = refl
by_test false true c at = refl
by_test false false true at = refl
by_test false false false at = refl

pub check_as_read : (v n room : ℕ) (s : List ℕ) → n ≤ room → as_check (read_answer v n room s) ≡ check_answer v n s
unfolding read_answer check_answer
check_as_read v n room s h = simp (le-ltb room n h) (by_test (ltb 253 v) (ltb 2097152 n) (gives v n s) (fault_at v n s))

pub check_one : {v n : ℕ} {s : List ℕ} {r r' : Result ⊤ CheckRefusal} → CheckPromise v n s r → CheckPromise v n s r' → r ≡ r'
check_one p q = p.answered ∙ sym q.answered
