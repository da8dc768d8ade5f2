-- A section at a place, by its octets, and back.
use Prim.Native.Nat.{ℕ, ◌+◌, ◌≤◌}
use mathlib.Core.Path.{◌≡◌, sym, ◌∙◌, ap}
use mathlib.Core.List.{List, ◌++◌}
use native.Mathlib.Omega.{arith}
use lib.ListN.{length, take, drop}
use lib.Seq.{take-append_seam}
use Rattle.octets.proofs.Lies.{Lies, past_is}
use Rattle.rules.specs.Fields.{length_at, number_at}
use Rattle.rules.proofs.Moved.{field_same}
use Rattle.sections.specs.Accepted.{Section, section_at}
use Rattle.sections.proofs.There.{AllThere, there}
use Rattle.sections.proofs.Alike.{field_alike}
use Rattle.files.specs.File.{Is}

pub is_at : {s : List ℕ} {end n at next : ℕ} → end ≤ length s → Section s end n at next → Is n (section_at s at)
unfolding length_at number_at
is_at {s} {end} {n} {at} inside h =
    let some = h.some in
    let all = there inside h in
    record {
      number = sym (field_alike s at 5 1 (omega arith) (omega arith)) ∙ h.number;
      some = omega arith;
      long = sym (field_alike s at 1 4 (omega arith) (omega arith)) ∙ all;
    }

pub is_there : (s : List ℕ) (at : ℕ) {n : ℕ} → Is n (section_at s at) → AllThere s at
unfolding length_at
is_there s at i = let some = i.some in field_alike s at 1 4 (omega arith) (omega arith) ∙ i.long

-- the octets o of a section, with r past them, at a place
module _ (s : List ℕ) (at : ℕ) {o : List ℕ} (r : List ℕ) (e : drop at s ≡ o ++ r) {n : ℕ} (i : Is n o) where
  lies : Lies s at o
  lies = record { after = r; from = e }

  pub long_of : length_at s at ≡ length o
  unfolding length_at
  long_of = let some = i.some in field_same s at o lies 1 4 (omega arith) (omega arith) ∙ i.long

  pub section_of : (end : ℕ) → at + length o ≤ end → Section s end n at (at + length o)
  unfolding number_at
  section_of end le =
      let some = i.some in
      let long = long_of in
      record {
        number = field_same s at o lies 5 1 (omega arith) (omega arith) ∙ i.number;
        some = omega arith;
        up_to = ap (λ (k : ℕ). at + k) long;
        inside = le;
      }

  pub octets_of_lem : section_at s at ≡ o
  octets_of_lem = (λ k. take (long_of k) (e k)) ∙ take-append_seam o r

  pub rest_of : drop (at + length o) s ≡ r
  unfolding lies
  rest_of = past_is s at o lies
