-- Each kind of step writes the beginning of what was to come.
use Prim.Native.Nat.{ℕ, zero, suc, ◌+◌, ◌≤◌, ◌<◌}
use mathlib.Core.Path.{◌≡◌, refl, sym, ap, ◌∙◌}
use mathlib.Core.List.{List, [], ◌∷◌, ◌++◌, append-nil}
use native.Mathlib.Omega.{arith}
use lib.ListN.{length, take, drop, length-append, length-take, length-drop}
use lib.Seq.{take-take}
use Rattle.sections.specs.Refusal.{number_of}
use Rattle.sections.specs.declared.Refusal.{Refusal}
use Rattle.stretches.specs.Stretch.{Entry}
use Rattle.stretches.specs.declared.Listing.{Listing}
use Rattle.lent.specs.Put.{Put}
use Rattle.lines.specs.Text.{entry_lines, refused_line, end_line}
use Rattle.lines.specs.Words.{entries_in}
use Rattle.lent.proofs.Putting.{put_none, named}
use Rattle.lines.proofs.Words.{entries_part}
use Rattle.lines.proofs.Lines.{lines_some, head_some, refused_some, end_some}
use Rattle.listing.specs.Listing.{head_of}
use Rattle.listing.specs.Progress.{list_of, part_text, text_from, InWords, Sound, ToCome, rank, steps_left, StepTo}
use Rattle.listing.specs.declared.CutPart.{CutPart}
use Rattle.listing.specs.declared.Progress.{Progress}
use Rattle.listing.specs.declared.Progress.TheVariants.{Refused, Head, ToList, ToWrite, End, Finished}
use Rattle.listing.specs.declared.AfterStep.{AfterStep}
use Rattle.listing.proofs.Moving.{count_few}
use Rattle.listing.proofs.Texts.{part_more}

rank_few : (p : Progress) → rank p ≤ 1
rank_few (Refused r) = omega arith
rank_few (Head part) = omega arith
rank_few (ToList part) = omega arith
rank_few (ToWrite part l k) = omega arith
rank_few (End n) = omega arith
rank_few Finished = omega arith

-- a step that writes something
wrote : (s ws d e piece : List ℕ) (p : Progress) (at : ℕ) (r : AfterStep)
    → Put d at piece e r.at → text_from s p ≡ piece ++ text_from s r.next → Sound s ws r.next → 0 < length piece → StepTo s ws d p at e r
unfolding steps_left
wrote s ws d e piece p at r put comes sound some = record {
  piece = piece;
  put = put;
  comes = comes;
  sound = sound;
  falls = λ _. omega (arith, rank_few r.next, ap length comes ∙ length-append piece (text_from s r.next));
}

-- ---- a line alone
pub step_refused : (s ws d e : List ℕ) (p : Progress) (at to n k : ℕ) (r : Refusal) → p ≡ Refused r → n ≡ number_of r.why → k ≡ r.place
    → Put d at (refused_line n k) e to → StepTo s ws d p at e (record { at = to; next = Finished })
unfolding text_from Sound
step_refused s ws d e p at to n k r h a b put =
    rw h (wrote s ws d e (refused_line n k) (Refused r) at (record { at = to; next = Finished }) put ((λ i. refused_line (sym a i) (sym b i)) ∙ sym (append-nil (refused_line n k))) tt (refused_some n k))

pub step_end : (s ws d e : List ℕ) (p : Progress) (at to n : ℕ) → p ≡ End n → Put d at (end_line n) e to → StepTo s ws d p at e (record { at = to; next = Finished })
unfolding text_from Sound
step_end s ws d e p at to n h put = rw h (wrote s ws d e (end_line n) (End n) at (record { at = to; next = Finished }) put (sym (append-nil (end_line n))) tt (end_some n))

pub step_head : (s ws d e : List ℕ) (p : Progress) (at to : ℕ) (part : CutPart) → p ≡ Head part → Sound s ws p → Put d at (head_of s part.number part.cut) e to
    → StepTo s ws d p at e (record { at = to; next = ToList part })
unfolding text_from Sound head_of
step_head s ws d e p at to part h o put =
    rw h (wrote s ws d e (head_of s part.number part.cut) (Head part) at (record { at = to; next = ToList part }) put refl (rw h at o) (head_some part.number _ _ _ _))

-- ---- the listing of entries writes nothing
pub step_list : (s ws d : List ℕ) (p : Progress) (at : ℕ) (part : CutPart) (q : Progress) → p ≡ ToList part → ToCome s ws (part_text s part 0) q → rank q ≡ 0
    → at ≤ length d → StepTo s ws d p at d (record { at = at; next = q })
unfolding text_from steps_left
step_list s ws d p at part q h x none room =
    rw h (record { piece = []; put = put_none d at room; comes = sym x.comes; sound = x.sound; falls = λ _. omega (arith, ap length x.comes) })

-- nothing is to come
pub step_none : (s ws d : List ℕ) (p : Progress) (at : ℕ) → p ≡ Finished → at ≤ length d → StepTo s ws d p at d (record { at = at; next = Finished })
unfolding text_from Sound
step_none s ws d p at h room =
    rw h (record { piece = []; put = put_none d at room; comes = refl; sound = tt; falls = λ f. let z : ◌≡◌ {A = ℕ} 0 1 = cc in absurd (omega arith) })

-- ---- lines of entries
inner_part : (k n m : ℕ) (L : List Entry) → k + n ≤ m → take n (drop k (take m L)) ≡ take n (drop k L)
inner_part zero n m L h = take-take n m L (omega arith)
inner_part (suc k) n zero L h = absurd (omega arith)
inner_part (suc k) n (suc m) [] h = refl
inner_part (suc k) n (suc m) (e ∷ L) h = inner_part k n m L (omega arith)

module _ (s ws d e : List ℕ) (at to : ℕ) (part : CutPart) (l : Listing) (k n : ℕ) (x : InWords s ws part l k) (fits : k + n ≤ l.count)
    (put : Put d at (entry_lines (entries_in ws k n)) e to) (some : 0 < n) where
  lines : entries_in ws k n ≡ take n (drop k (list_of s part))
  lines =
      entries_part ws k n l.count fits ∙ ap (λ (es : List Entry). take n (drop k es)) x.holds ∙ inner_part k n l.count (list_of s part) fits

  enough : n ≤ length (entry_lines (take n (drop k (list_of s part))))
  enough =
      omega (arith, lines_some (take n (drop k (list_of s part))), length-take n (drop k (list_of s part)), length-drop k (list_of s part), count_few s part l x.listed)

  -- some are left
  pub step_lines : k + n < l.count → StepTo s ws d (ToWrite part l k) at e (record { at = to; next = ToWrite part l (k + n) })
  unfolding text_from Sound
  step_lines h =
      wrote s ws d e (entry_lines (take n (drop k (list_of s part)))) (ToWrite part l k) at (record { at = to; next = ToWrite part l (k + n) })
      (named (ap entry_lines lines) put) (part_more s part k n)
      (record { listed = x.listed; inside = x.inside; holds = x.holds; some_left = h }) (omega (arith, enough))

  -- all are written
  pub step_past : l.count ≤ k + n → (q : Progress) → ToCome s ws (part_text s part l.count) q → StepTo s ws d (ToWrite part l k) at e (record { at = to; next = q })
  unfolding text_from
  step_past h q y =
      let all : k + n ≡ l.count = omega arith in
      wrote s ws d e (entry_lines (take n (drop k (list_of s part)))) (ToWrite part l k) at (record { at = to; next = q })
      (named (ap entry_lines lines) put)
      (part_more s part k n ∙ ap (λ (m : ℕ). entry_lines (take n (drop k (list_of s part))) ++ part_text s part m) all ∙ ap (λ (r : List ℕ). entry_lines (take n (drop k (list_of s part))) ++ r) (sym y.comes))
      y.sound (omega (arith, enough))
