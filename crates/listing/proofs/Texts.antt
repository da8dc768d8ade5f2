-- What is to come past the entries of a listing: more of the same list, the next cut, or the end.
use Prim.Native.Nat.{ℕ, suc, ◌+◌, ◌≤◌, ◌<◌}
use mathlib.Core.Path.{◌≡◌, sym, ap, ◌∙◌}
use mathlib.Core.List.{List, [], ◌∷◌, ◌++◌, append_assoc}
use native.Mathlib.Omega.{arith}
use lib.ListN.{length, take, drop, get_or, drop_of_length-le, take-append-drop}
use lib.Seq.{drop-cons, drop-drop}
use Rattle.sections.specs.Verdict.{default_cut}
use Rattle.sections.specs.declared.Cut.{Cut}
use Rattle.stretches.specs.Stretch.{Entry}
use Rattle.lines.specs.Text.{entry_lines, end_line}
use Rattle.lines.proofs.Lines.{lines_append}
use Rattle.listing.specs.Listing.{head_of, house_list, cut_lines, entry_count}
use Rattle.listing.specs.Progress.{cuts_in, list_of, text_at, part_text}
use Rattle.listing.specs.declared.CutPart.{CutPart}

-- past the last cut
pub no_cut : (s : List ℕ) (i n : ℕ) → length (cuts_in s) ≤ i → text_at s i n ≡ end_line n
unfolding text_at cut_lines entry_count
no_cut s i n h =
    let sum : n + 0 ≡ n = omega arith in
    let none : drop i (cuts_in s) ≡ [] = drop_of_length-le (cuts_in s) h in
    rw (none, sum)

-- a cut, and what comes past it
pub one_cut : (s : List ℕ) (i n : ℕ) → i < length (cuts_in s) → (c : Cut) → c ≡ get_or (cuts_in s) i default_cut
    → text_at s i n ≡ head_of s i c ++ (entry_lines (house_list s c 0 0) ++ text_at s (suc i) (n + length (house_list s c 0 0)))
unfolding text_at cut_lines entry_count
one_cut s i n h c e =
    let rest : List Cut = drop (suc i) (cuts_in s) in
    let first : drop i (cuts_in s) ≡ c ∷ rest = drop-cons (cuts_in s) i default_cut h ∙ ap (λ (x : Cut). x ∷ rest) (sym e) in
    let L : List Entry = house_list s c 0 0 in
    let sum : n + (length L + entry_count s rest) ≡ n + length L + entry_count s rest = omega arith in
    rw first
    (append_assoc (head_of s i c) (entry_lines L ++ cut_lines s (suc i) rest) (end_line (n + (length L + entry_count s rest)))
    ∙ ap (λ (l : List ℕ). head_of s i c ++ l) (append_assoc (entry_lines L) (cut_lines s (suc i) rest) (end_line (n + (length L + entry_count s rest))))
    ∙ ap (λ (m : ℕ). head_of s i c ++ (entry_lines L ++ (cut_lines s (suc i) rest ++ end_line m))) sum)

-- n more lines of a part's list
pub part_more : (s : List ℕ) (part : CutPart) (k n : ℕ) → part_text s part k ≡ entry_lines (take n (drop k (list_of s part))) ++ part_text s part (k + n)
unfolding part_text
part_more s part k n =
    let L : List Entry = list_of s part in
    let rest : List ℕ = text_at s (suc part.number) (part.total + length L) in
    ap (λ (l : List Entry). entry_lines l ++ rest) (sym (split n (drop k L)) ∙ ap (λ (l : List Entry). take n (drop k L) ++ l) (drop-drop n k L))
    ∙ ap (λ (l : List ℕ). l ++ rest) (lines_append (take n (drop k L)) (drop (k + n) L))
    ∙ append_assoc (entry_lines (take n (drop k L))) (entry_lines (drop (k + n) L)) rest
  where
    split : (m : ℕ) (l : List Entry) → take m l ++ drop m l ≡ l
    split = take-append-drop
