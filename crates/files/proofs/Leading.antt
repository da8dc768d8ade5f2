-- Sections 0 and 1, cuts and what is left, where they lie and how long they are.
use Prim.Native.Nat.{ℕ, ◌+◌}
use mathlib.Core.Path.{◌≡◌, sym, ◌∙◌, ap}
use mathlib.Core.List.{List, ◌++◌}
use native.Mathlib.Omega.{arith}
use lib.ListN.{length, take, drop, length-append}
use lib.Seq.{take_at, drop_at, drop-drop, drop-append_seam}
use Rattle.sections.specs.Accepted.{Format, section_at}
use Rattle.files.specs.File.{Parts, Leading}
use Rattle.files.proofs.Section.{octets_of_lem, rest_of}

module _ {f : Format} {s : List ℕ} {ps : List Parts} {left : List ℕ} (a : Leading f s ps left) where
  pub size_of : length s ≡ 37 + (length a.cuts + length left)
  size_of =
      let l0 = a.zero_long in
      let l1 = a.one_long in
      ap length a.is ∙ simp length-append (omega arith)

  pub zero_is : take 16 s ≡ a.zero
  zero_is = ap (take 16) a.is ∙ take_at a.zero (a.one ++ (a.cuts ++ left)) 16 a.zero_long

  pub past_zero : drop 16 s ≡ a.one ++ (a.cuts ++ left)
  past_zero = ap (drop 16) a.is ∙ drop_at a.zero (a.one ++ (a.cuts ++ left)) 16 a.zero_long

  pub one_is : section_at s 16 ≡ a.one
  one_is = octets_of_lem s 16 (a.cuts ++ left) past_zero a.one_here

  pub past_one : drop 37 s ≡ a.cuts ++ left
  past_one = ap (λ (n : ℕ). drop (16 + n) s) (sym a.one_long) ∙ rest_of s 16 (a.cuts ++ left) past_zero a.one_here

  pub past_cuts : drop (37 + length a.cuts) s ≡ left
  past_cuts = sym (drop-drop (length a.cuts) 37 s) ∙ ap (drop (length a.cuts)) past_one ∙ drop-append_seam a.cuts left
