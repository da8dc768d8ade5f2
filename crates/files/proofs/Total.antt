-- Section 0 with a new total: it has that total, and is as right as it was.
use Prim.Native.Nat.{ℕ, ◌+◌, ◌-◌, ◌^◌, ◌<◌}
use mathlib.Core.Path.{◌≡◌, refl, sym, ◌∙◌, ap}
use mathlib.Core.List.{List, [], ◌++◌, append-nil}
use mathlib.Core.Bool.{true}
use native.Mathlib.Omega.{arith}
use lib.ListN.{length, get_or, take, drop, length-append, length-take, take-append-drop}
use lib.Seq.{drop_at, drop-append_seam}
use Rattle.octets.specs.Octets.{be, in_octets}
use Rattle.octets.proofs.Lies.{Lies, be_same}
use Rattle.octets.proofs.Written.{written_length, written_reads}
use Rattle.rules.specs.Rules.{Rule, is, field, meets, meets_all, rules0}
use Rattle.rules.proofs.Bounds.{nth_rule, exactly_is}
use Rattle.rules.proofs.Moved.{reaches, meets_same}
use Rattle.sections.specs.Accepted.{Meets, section_at}
use Rattle.files.specs.File.{Is, total_in}
use Rattle.files.specs.Smaller.{totalled, sevens, assembled}
use Rattle.files.proofs.Section.{octets_of_lem}

module _ (s0 : List ℕ) (long : length s0 ≡ 16) (n : ℕ) (h : Meets s0 0 (rules0 n)) (m : ℕ) (small : m < 256 ^ 8) where
  front_long : length (take 8 s0) ≡ 8
  front_long = length-take 8 s0 ∙ (omega arith)

  pub totalled_long : length (totalled s0 m) ≡ 16
  totalled_long = length-append (take 8 s0) (in_octets 8 m) ∙ (let l = written_length 8 m in let f = front_long in omega arith)

  front_old : Lies s0 0 (take 8 s0)
  front_old = record { after = drop 8 s0; from = sym (take-append-drop 8 s0) }

  front_new : Lies (totalled s0 m) 0 (take 8 s0)
  front_new = record { after = in_octets 8 m; from = refl }

  kept : (r : Rule) → reaches 8 r ≡ true → meets s0 0 r ≡ true → meets (totalled s0 m) 0 r ≡ true
  kept r e k =
      let l = front_long in
      meets_same (totalled s0 m) 0 (take 8 s0) front_new 8 (omega arith) r e ∙ sym (meets_same s0 0 (take 8 s0) front_old 8 (omega arith) r e) ∙ k

  pub total_is : total_in (totalled s0 m) ≡ m
  unfolding field
  total_is =
      let l = front_long in
      let w = written_length 8 m in
      let e : drop 8 (totalled s0 m) ≡ in_octets 8 m ++ [] = ap (λ (k : ℕ). drop k (totalled s0 m)) (sym l) ∙ drop-append_seam (take 8 s0) (in_octets 8 m) ∙ sym (append-nil (in_octets 8 m)) in
      let z : 0 + 9 - 1 ≡ 8 + 0 = refl in
      ap (λ (k : ℕ). be (totalled s0 m) k 8) z ∙ be_same (totalled s0 m) 8 (in_octets 8 m) (record { after = []; from = e }) 0 8 (omega arith) ∙ written_reads 8 m small

  pub totalled_is : Meets (totalled s0 m) 0 (rules0 m)
  unfolding rules0 meets_all
  totalled_is =
      let r : (i : ℕ) → i < 4 → meets s0 0 (get_or (rules0 n) i (is 0 0 0)) ≡ true = λ i lt. nth_rule s0 0 (rules0 n) (is 0 0 0) h i lt in
      rw (kept (is 1 4 0x47524942) refl (r 0 (omega arith)), kept (is 7 1 0) refl (r 1 (omega arith)), kept (is 8 1 2) refl (r 2 (omega arith)), exactly_is (totalled s0 m) 0 9 8 m total_is)

-- section 1 past it
pub assembled_one : (s0 s1 cuts : List ℕ) → length s0 ≡ 16 → Is 1 s1 → section_at (assembled s0 s1 cuts) 16 ≡ s1
assembled_one s0 s1 cuts long i =
    let total = 16 + (length s1 + (length cuts + 4)) in
    let w = written_length 8 total in
    let front : length (take 8 s0) ≡ 8 = length-take 8 s0 ∙ (omega arith) in
    let l : length (totalled s0 total) ≡ 16 = length-append (take 8 s0) (in_octets 8 total) ∙ (omega arith) in
    octets_of_lem (assembled s0 s1 cuts) 16 (cuts ++ sevens) (drop_at (totalled s0 total) (s1 ++ (cuts ++ sevens)) 16 l) i
