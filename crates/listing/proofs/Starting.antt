-- Before the first octet: by the length of the file and what the walk answers, the whole text is to come.
use Prim.Native.Nat.{ℕ, ◌+◌, ◌≤◌, ◌<◌}
use mathlib.Core.Path.{◌≡◌, refl, sym, ap, ◌∙◌}
use mathlib.Core.List.{List, ◌++◌}
use native.Mathlib.Omega.{arith}
use borrow.Author.Tests.{lt-ltb, le-ltb}
use lib.ListN.{length, get_or}
use Rattle.sections.specs.Refusal.{number_of}
use Rattle.sections.specs.Verdict.{Verdict, accepted, refused, default_cut}
use Rattle.base_format.specs.Verdict.{verdict}
use Rattle.sections.specs.declared.Cut.{Cut}
use Rattle.sections.specs.declared.Refusal.{Refusal}
use Rattle.sections.specs.declared.Why.TheVariants.{FileSize}
use Rattle.walks.specs.Answer.{answer_for}
use Rattle.walks.specs.declared.Found.{Found}
use Rattle.lines.specs.Text.{refused_line, end_line}
use Rattle.listing.specs.Listing.{cut_lines, entry_count, verdict_text, text_of}
use Rattle.listing.specs.Progress.{cuts_by, cuts_in, cut_begun, text_at, part_text, text_from, Sound}
use Rattle.listing.specs.declared.CutPart.{CutPart}
use Rattle.listing.specs.declared.Progress.TheVariants.{Refused, Head}
use Rattle.listing.proofs.AllCuts.{some_cut}
use Rattle.listing.proofs.Moving.{at_first}
use Rattle.listing.proofs.Texts.{one_cut}
use Rattle.std.specs.Prelude.{Err, Ok}

pub too_long : (s : List ℕ) → 65536 < length s → text_from s (Refused (record { why = FileSize; place = 0 })) ≡ text_of s
unfolding text_from text_of
too_long s h = simp (lt-ltb 65536 (length s) h)

text_is : (s : List ℕ) → length s ≤ 65536 → text_of s ≡ verdict_text s (verdict s)
unfolding text_of
text_is s h = simp (le-ltb 65536 (length s) h)

pub refused_first : (s : List ℕ) (r : Refusal) → length s ≤ 65536 → answer_for 0 (verdict s) ≡ Err r → text_from s (Refused r) ≡ text_of s
unfolding text_from verdict_text answer_for
refused_first s r h e = go (verdict s) e ∙ sym (text_is s h)
  where
    go : (v : Verdict) → answer_for 0 v ≡ Err r → refused_line (number_of r.why) r.place ≡ verdict_text s v
    go (accepted cs) e = let z : ◌≡◌ {A = ℕ} 0 1 = cc in absurd (omega arith)
    go (refused q) e = let same : r ≡ q = cc in ap (λ (x : Refusal). refused_line (number_of x.why) x.place) same

from_first : (s : List ℕ) → text_at s 0 0 ≡ cut_lines s 0 (cuts_in s) ++ end_line (entry_count s (cuts_in s))
unfolding text_at
from_first s = let sum : 0 + entry_count s (cuts_in s) ≡ entry_count s (cuts_in s) = omega arith in ap (λ (n : ℕ). cut_lines s 0 (cuts_in s) ++ end_line n) sum

pub head_first : (s : List ℕ) (f : Found) (part : CutPart) → part ≡ cut_begun 0 f.cuts f.cut 0 → length s ≤ 65536 → answer_for 0 (verdict s) ≡ Ok f
    → (text_from s (Head part) ≡ text_of s) × ((ws : List ℕ) → Sound s ws (Head part))
unfolding text_from part_text verdict_text answer_for Sound
head_first s f part begun h e = rw begun (go (verdict s) refl e)
  where
    go : (v : Verdict) → verdict s ≡ v → answer_for 0 v ≡ Ok f → (text_from s (Head (cut_begun 0 f.cuts f.cut 0)) ≡ text_of s) × ((ws : List ℕ) → Sound s ws (Head (cut_begun 0 f.cuts f.cut 0)))
    go (refused r) u e = let z : ◌≡◌ {A = ℕ} 0 1 = cc in absurd (omega arith)
    go (accepted cs) u e =
        let found : f ≡ record { cuts = length cs; cut = get_or cs 0 default_cut } = cc in
        let all : cs ≡ cuts_in s = sym (ap cuts_by u) in
        let some : 0 < length (cuts_in s) = omega (arith, some_cut s cs u, ap length all) in
        let count : f.cuts ≡ length (cuts_in s) = ap (λ (x : Found). x.cuts) found ∙ ap length all in
        let is : f.cut ≡ get_or (cuts_in s) 0 default_cut = ap (λ (x : Found). x.cut) found ∙ ap (λ (l : List Cut). get_or l 0 default_cut) all in
        (sym (one_cut s 0 0 some f.cut is) ∙ from_first s ∙ (λ i. cut_lines s 0 (sym all i) ++ end_line (entry_count s (sym all i))) ∙ ap (verdict_text s) (sym u) ∙ sym (text_is s h), λ ws. at_first s 0 0 f.cuts f.cut some count is (omega arith))
