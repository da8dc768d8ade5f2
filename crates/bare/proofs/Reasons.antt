-- Demand 1 for the calls without a file, both ways: each refuses exactly where its reason holds, and answers exactly where none does. The tests are taken apart in their order: a call
-- answers, or there is a reason; and where there is one it refuses so.
use Prim.Native.Nat.{ℕ}
use mathlib.Core.Path.{◌≡◌, refl, sym, ap, ◌∙◌, subst}
use mathlib.Core.Logic.{◌⊎◌, inl, inr, ⊎_elim, ◌↔◌}
use mathlib.Core.Bool.{Bool, true, false, cond}
use mathlib.Core.List.{List}
use native.Mathlib.Omega.{arith}
use borrow.Author.Tests.{lt-ltb, le-ltb, ltb-true, ltb-false}
use lib.Dec.{ltb}
use lib.ListN.{length}
use Rattle.octets.proofs.Orders.{by_order}
use Rattle.runs.specs.Run.{gives, fault_at}
use Rattle.runs.proofs.Fault.{gives_fault, fault_gives, fault_only}
use Rattle.packing.specs.Write.{greatest, packed}
use Rattle.bare.specs.Read.{read_answer, ReadPromise, check_answer, CheckPromise}
use Rattle.bare.specs.Write.{write_answer, WritePromise}
use Rattle.bare.specs.Reasons.{ReadReason, CheckReason, WriteReason}
use Rattle.bare.specs.declared.ReadRefusal.{ReadRefusal}
use Rattle.bare.specs.declared.ReadRefusal.TheVariants as F
use Rattle.bare.specs.declared.CheckRefusal.{CheckRefusal}
use Rattle.bare.specs.declared.CheckRefusal.TheVariants as C
use Rattle.bare.specs.declared.WriteRefusal.{WriteRefusal}
use Rattle.bare.specs.declared.WriteRefusal.TheVariants as G
use Rattle.bare.specs.declared.Wrote.{Wrote}
use Rattle.std.specs.Prelude.{Err, Ok, Result, ⊤}

-- of any answer a that is good or has a reason to refuse, and that is a refusal where it has one
module _ {A Q : Type 0} {Refused : Q → A} {good a : A} {Why : Q → Type 0} (split : (a ≡ good) ⊎ ((q : Q) × Why q)) (by : (q : Q) → Why q → a ≡ Refused q)
    (apart : (q : Q) → Refused q ≡ good → ⊥) where
  reason : ((p q : Q) → Refused p ≡ Refused q → p ≡ q) → (q : Q) → a ≡ Refused q → Why q
  reason same q e = ⊎_elim (λ h. absurd (apart q (sym e ∙ h))) (λ w. subst Why (same w.0 q (sym (by w.0 w.1) ∙ e)) w.1) split

  answered : (a ≡ good) ↔ ((q : Q) → Why q → ⊥)
  answered = ((λ h q w. apart q (sym (by q w) ∙ h)), (λ none. ⊎_elim (λ h. h) (λ w. absurd (none w.0 w.1)) split))

-- ── run read ──

module _ (v n : ℕ) (s d out : List ℕ) where
  abbrev ReadWhy : ReadRefusal → Type 0
  ReadWhy = ReadReason v n (length d) s

  read_split : (a b c g : Bool) → ltb 253 v ≡ a → ltb 2097152 n ≡ b → ltb (length d) n ≡ c → gives v n s ≡ g
      → (◌≡◌ {A = Result ⊤ ReadRefusal} (cond a (Err F.V) (cond b (Err F.Argument) (cond c (Err F.Room) (cond g (Ok tt) (Err (F.Data (fault_at v n s))))))) (Ok tt)) ⊎ ((q : ReadRefusal) × ReadWhy q)
  read_split true b c g ea eb ec eg = inr (F.V, ReadReason.by_v (ltb-true _ _ ea))
  read_split false true c g ea eb ec eg = inr (F.Argument, ReadReason.by_argument (ltb-false _ _ ea) (ltb-true _ _ eb))
  read_split false false true g ea eb ec eg = inr (F.Room, ReadReason.by_room (ltb-false _ _ ea) (ltb-false _ _ eb) (ltb-true _ _ ec))
  read_split false false false false ea eb ec eg =
      inr (F.Data (fault_at v n s), ReadReason.by_data (ltb-false _ _ ea) (ltb-false _ _ eb) (ltb-false _ _ ec) (gives_fault v n s eg))
  read_split false false false true ea eb ec eg = inl refl

  read_by : (q : ReadRefusal) → ReadWhy q → read_answer v n (length d) s ≡ Err q
  unfolding read_answer
  read_by q (ReadReason.by_v a) = rw (lt-ltb 253 v a)
  read_by q (ReadReason.by_argument a b) = rw (le-ltb 253 v a, lt-ltb 2097152 n b)
  read_by q (ReadReason.by_room a b c) = rw (le-ltb 253 v a, le-ltb 2097152 n b, lt-ltb (length d) n c)
  read_by q (ReadReason.by_data {at} a b c x) =
      rw (le-ltb 253 v a, le-ltb 2097152 n b, le-ltb (length d) n c, (fault_gives v n s).0 (at, x)) (ap (λ (k : ℕ). Err (F.Data k)) (sym (fault_only v n at s x)))

  read_or : (read_answer v n (length d) s ≡ (Ok tt)) ⊎ ((q : ReadRefusal) × ReadWhy q)
  unfolding read_answer
  read_or = read_split (ltb 253 v) (ltb 2097152 n) (ltb (length d) n) (gives v n s) refl refl refl refl

  read_apart : (q : ReadRefusal) → ◌≡◌ {A = Result ⊤ ReadRefusal} (Err q) (Ok tt) → ⊥
  read_apart q e = let z : ◌≡◌ {A = ℕ} 0 1 = cc in omega arith

  pub read_reason : (q : ReadRefusal) → ReadPromise v n s d (Err q) out → ReadReason v n (length d) s q
  read_reason q p = reason read_or read_by read_apart (λ p q e. cc e) q (sym p.answered)

  pub reason_read : (q : ReadRefusal) (a : Result ⊤ ReadRefusal) → ReadReason v n (length d) s q → ReadPromise v n s d a out → a ≡ Err q
  reason_read q a h p = p.answered ∙ read_by q h

  pub read_answered : (a : Result ⊤ ReadRefusal) → ReadPromise v n s d a out → (a ≡ (Ok tt)) ↔ ((q : ReadRefusal) → ReadReason v n (length d) s q → ⊥)
  read_answered a p = rw p.answered (answered read_or read_by read_apart)

  -- what it reads gives exactly the levels wanted
  read_only : (a b c g : Bool) (at : ℕ) → ◌≡◌ {A = Result ⊤ ReadRefusal} (Ok tt) (cond a (Err F.V) (cond b (Err F.Argument) (cond c (Err F.Room) (cond g (Ok tt) (Err (F.Data at)))))) → g ≡ true
  read_only true b c g at e = absurd (read_apart F.V (sym e))
  read_only false true c g at e = absurd (read_apart F.Argument (sym e))
  read_only false false true g at e = absurd (read_apart F.Room (sym e))
  read_only false false false true at e = refl
  read_only false false false false at e = absurd (read_apart (F.Data at) (sym e))

  pub read_gives : ReadPromise v n s d (Ok tt) out → gives v n s ≡ true
  unfolding read_answer
  read_gives p = read_only (ltb 253 v) (ltb 2097152 n) (ltb (length d) n) (gives v n s) (fault_at v n s) p.answered

-- ── run check ──

module _ (v n : ℕ) (s : List ℕ) where
  check_split : (a b g : Bool) → ltb 253 v ≡ a → ltb 2097152 n ≡ b → gives v n s ≡ g
      → (◌≡◌ {A = Result ⊤ CheckRefusal} (cond a (Err C.V) (cond b (Err C.Argument) (cond g (Ok tt) (Err (C.Data (fault_at v n s)))))) (Ok tt)) ⊎ ((q : CheckRefusal) × CheckReason v n s q)
  check_split true b g ea eb eg = inr (C.V, CheckReason.by_v (ltb-true _ _ ea))
  check_split false true g ea eb eg = inr (C.Argument, CheckReason.by_argument (ltb-false _ _ ea) (ltb-true _ _ eb))
  check_split false false false ea eb eg = inr (C.Data (fault_at v n s), CheckReason.by_data (ltb-false _ _ ea) (ltb-false _ _ eb) (gives_fault v n s eg))
  check_split false false true ea eb eg = inl refl

  check_by : (q : CheckRefusal) → CheckReason v n s q → check_answer v n s ≡ Err q
  unfolding check_answer
  check_by q (CheckReason.by_v a) = rw (lt-ltb 253 v a)
  check_by q (CheckReason.by_argument a b) = rw (le-ltb 253 v a, lt-ltb 2097152 n b)
  check_by q (CheckReason.by_data {at} a b x) =
      rw (le-ltb 253 v a, le-ltb 2097152 n b, (fault_gives v n s).0 (at, x)) (ap (λ (k : ℕ). Err (C.Data k)) (sym (fault_only v n at s x)))

  check_or : (check_answer v n s ≡ (Ok tt)) ⊎ ((q : CheckRefusal) × CheckReason v n s q)
  unfolding check_answer
  check_or = check_split (ltb 253 v) (ltb 2097152 n) (gives v n s) refl refl refl

  check_apart : (q : CheckRefusal) → ◌≡◌ {A = Result ⊤ CheckRefusal} (Err q) (Ok tt) → ⊥
  check_apart q e = let z : ◌≡◌ {A = ℕ} 0 1 = cc in omega arith

  pub check_reason : (q : CheckRefusal) → CheckPromise v n s (Err q) → CheckReason v n s q
  check_reason q p = reason check_or check_by check_apart (λ p q e. cc e) q (sym p.answered)

  pub reason_check : (q : CheckRefusal) (a : Result ⊤ CheckRefusal) → CheckReason v n s q → CheckPromise v n s a → a ≡ Err q
  reason_check q a h p = p.answered ∙ check_by q h

  pub check_answered : (a : Result ⊤ CheckRefusal) → CheckPromise v n s a → (a ≡ (Ok tt)) ↔ ((q : CheckRefusal) → CheckReason v n s q → ⊥)
  check_answered a p = rw p.answered (answered check_or check_by check_apart)

-- ── run write ──

module _ (s d out : List ℕ) where
  abbrev wrote : Result Wrote WriteRefusal
  wrote = Ok (record { v = greatest s; len = length (packed s) })

  write_split : (a b c : Bool) → ltb 2097152 (length s) ≡ a → ltb 252 (greatest s) ≡ b → ltb (length d) (length (packed s)) ≡ c
      → (cond a (Err G.Argument) (cond b (Err G.Argument) (cond c (Err G.Room) wrote)) ≡ wrote) ⊎ ((q : WriteRefusal) × WriteReason (length d) s q)
  write_split true b c ea eb ec = inr (G.Argument, WriteReason.by_count (ltb-true _ _ ea))
  write_split false true c ea eb ec = inr (G.Argument, WriteReason.by_level (ltb-true _ _ eb))
  write_split false false true ea eb ec = inr (G.Room, WriteReason.by_room (ltb-false _ _ ea) (ltb-false _ _ eb) (ltb-true _ _ ec))
  write_split false false false ea eb ec = inl refl

  write_by : (q : WriteRefusal) → WriteReason (length d) s q → write_answer (length d) s ≡ Err q
  unfolding write_answer
  write_by q (WriteReason.by_count a) = rw (lt-ltb 2097152 (length s) a)
  write_by q (WriteReason.by_level b) =
      by_order (length s) 2097152
      (λ a. rw (le-ltb 2097152 (length s) a, lt-ltb 252 (greatest s) b))
      (λ a. rw (lt-ltb 2097152 (length s) a))
  write_by q (WriteReason.by_room a b c) = rw (le-ltb 2097152 (length s) a, le-ltb 252 (greatest s) b, lt-ltb (length d) (length (packed s)) c)

  write_or : (write_answer (length d) s ≡ wrote) ⊎ ((q : WriteRefusal) × WriteReason (length d) s q)
  unfolding write_answer
  write_or = write_split (ltb 2097152 (length s)) (ltb 252 (greatest s)) (ltb (length d) (length (packed s))) refl refl refl

  write_apart : (v n : ℕ) (q : WriteRefusal) → ◌≡◌ {A = Result Wrote WriteRefusal} (Err q) (Ok (record { v = v; len = n })) → ⊥
  write_apart v n q e = let z : ◌≡◌ {A = ℕ} 0 1 = cc in omega arith

  pub write_reason : (q : WriteRefusal) → WritePromise s d (Err q) out → WriteReason (length d) s q
  write_reason q p = reason write_or write_by (write_apart _ _) (λ p q e. cc e) q (sym p.answered)

  pub reason_write : (q : WriteRefusal) (a : Result Wrote WriteRefusal) → WriteReason (length d) s q → WritePromise s d a out → a ≡ Err q
  reason_write q a h p = p.answered ∙ write_by q h

  pub write_answered : (a : Result Wrote WriteRefusal) → WritePromise s d a out → (a ≡ Ok (record { v = greatest s; len = length (packed s) })) ↔ ((q : WriteRefusal) → WriteReason (length d) s q → ⊥)
  write_answered a p = rw p.answered (answered write_or write_by (write_apart _ _))

  -- what it answers, where it answers
  pub write_tells : (v n : ℕ) → WritePromise s d (Ok (record { v = v; len = n })) out → ◌≡◌ {A = Result Wrote WriteRefusal} (Ok (record { v = v; len = n })) (Ok (record { v = greatest s; len = length (packed s) }))
  write_tells v n p = ⊎_elim (λ h. p.answered ∙ h) (λ w. absurd (write_apart v n w.0 (sym (write_by w.0 w.1) ∙ sym p.answered))) write_or
