-- What the promise of run write leaves in lent memory, that it leaves one outcome, and that run read gives back what it writes. When it answers is said in Reasons.antt.
use Prim.Native.Nat.{ℕ, ◌≤◌}
use mathlib.Core.Path.{◌≡◌, refl, sym, ap, ◌∙◌}
use mathlib.Core.List.{List}
use native.Mathlib.Omega.{arith}
use lib.ListN.{length, take, drop}
use lib.Seq.{take-append_seam}
use Rattle.octets.proofs.Orders.{by_order}
use Rattle.runs.specs.Runs.{Decodes, Exactly}
use Rattle.lent.specs.Lent.{front}
use Rattle.bare.specs.Read.{ReadPromise}
use Rattle.runs.proofs.Meaning.{gives_exactly, levels_decode}
use Rattle.runs.proofs.Fault.{fault_given}
use Rattle.bare.proofs.Read.{read_levels}
use Rattle.bare.proofs.Reasons.{read_answered, write_answered, write_tells}
use Rattle.bare.specs.Reasons.{ReadReason, by_count, by_level}
use Rattle.bare.specs.declared.ReadRefusal.{ReadRefusal}
use Rattle.packing.specs.Write.{greatest, written, packed}
use Rattle.bare.specs.Write.{write_out, WritePromise}
use Rattle.bare.specs.declared.WriteRefusal.{WriteRefusal}
use Rattle.bare.specs.declared.WriteRefusal.TheVariants.{Argument}
use Rattle.packing.proofs.ReadBack.{written_levels, written_opens, written_gives}
use Rattle.bare.specs.declared.Wrote.{Wrote}
use Rattle.std.specs.Prelude.{Err, Ok, Result, ⊤}

module _ {s d out : List ℕ} {answer : Result Wrote WriteRefusal} (p : WritePromise s d answer out) where
  -- where it writes, the octets stand in front, and past them nothing has changed
  pub write_octets : {v n : ℕ} → answer ≡ Ok (record { v = v; len = n }) → out ≡ front (packed s) d
  write_octets e = p.held ∙ ap (λ (r : Result Wrote WriteRefusal). write_out r (packed s) d) e

  -- a refusal changes nothing
  pub write_refused : (why : WriteRefusal) → answer ≡ Err why → out ≡ d
  write_refused why e = p.held ∙ ap (λ (r : Result Wrote WriteRefusal). write_out r (packed s) d) e

-- two outcomes that the promise allows are equal
pub write_one : {s d out out' : List ℕ} {r r' : Result Wrote WriteRefusal} → WritePromise s d r out → WritePromise s d r' out' → (r ≡ r') × (out ≡ out')
write_one {s} {d} p q =
    let same = p.answered ∙ sym q.answered in
    (same, p.held ∙ ap (λ (r : Result Wrote WriteRefusal). write_out r (packed s) d) same ∙ sym q.held)

no_reason : {v n room : ℕ} {s : List ℕ} → v ≤ 253 → n ≤ 2097152 → n ≤ room → Exactly v n s → (q : ReadRefusal) → ReadReason v n room s q → ⊥
no_reason low few fits exact q (ReadReason.by_v a) = omega arith
no_reason low few fits exact q (ReadReason.by_argument a b) = omega arith
no_reason low few fits exact q (ReadReason.by_room a b c) = omega arith
no_reason low few fits exact q (ReadReason.by_data a b c x) = fault_given x exact

-- what run write wrote: under a V of 252 and less the octets of at most 2,097,152 levels, none of them over V
pub record Written (s out : List ℕ) (v n : ℕ) : Type 0 where
  pub few : length s ≤ 2097152
  pub low : v ≤ 252
  pub top : greatest s ≤ v
  pub long : n ≡ length (written v s)
  pub octets : take n out ≡ written v s

pub wrote : {s d out : List ℕ} {v n : ℕ} → WritePromise s d (Ok (record { v = v; len = n })) out → Written s out v n
wrote {s} {d} {out} {v} {n} w =
    let told = write_tells s d out v n w in
    let same : ◌≡◌ {A = Wrote} (record { v = v; len = n }) (record { v = greatest s; len = length (packed s) }) = cc told in
    let top : v ≡ greatest s = λ i. (same i).v in
    let long : n ≡ length (packed s) = λ i. (same i).len in
    let none = (write_answered s d out (Ok (record { v = v; len = n })) w).0 told in
    record {
      few = by_order (length s) 2097152 (λ h. h) (λ h. absurd (none Argument (by_count h)));
      low = by_order v 252 (λ h. h) (λ h. absurd (none Argument (by_level (rw top at h))));
      top = omega arith;
      long = long ∙ ap (λ (x : ℕ). length (written x s)) (sym top);
      octets = (λ i. take (long i) (write_octets w refl i)) ∙ take-append_seam (packed s) (drop (length (packed s)) d) ∙ ap (λ (x : ℕ). written x s) (sym top);
    }

-- Demand 2: the octets that run write wrote, given to run read with the V it answered and room for the levels, are read, and what then stands in
-- front of the lent levels is the row that was written
pub read_back : {s d out : List ℕ} {v n : ℕ} → WritePromise s d (Ok (record { v = v; len = n })) out →
    {d' out' : List ℕ} {answer : Result ⊤ ReadRefusal} → length s ≤ length d' → ReadPromise v (length s) (take n out) d' answer out' → (answer ≡ (Ok tt)) × (out' ≡ front s d')
read_back {s} {d} {out} {v} {n} w {d'} {out'} {answer} room p =
    let k = wrote w in
    let exact : Exactly v (length s) (take n out) = rw k.octets (gives_exactly v (length s) (written v s) (written_gives v k.low s k.top)) in
    let yes = (read_answered v (length s) (take n out) d' out' answer p).1 (no_reason (omega (arith, k.low)) k.few room exact) in
    let same : Decodes v (written v s) s = rw (written_levels v k.low s k.top) at (levels_decode v (written v s) (written_opens v s k.top)) in
    (yes, read_levels p yes s (rw k.octets same))
