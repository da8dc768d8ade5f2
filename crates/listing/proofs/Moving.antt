-- Past the entries of a listing the writing stands at the same list's next point, at the next cut or at the end, and each time the text to come is the same.
use Prim.Native.Nat.{ℕ, suc, ◌+◌, ◌*◌, ◌/◌, ◌≤◌, ◌<◌, min}
use mathlib.Core.Path.{◌≡◌, refl, sym, ap, subst, ◌∙◌}
use mathlib.Core.Bool.{true}
use mathlib.Core.List.{List, [], ◌++◌}
use native.Mathlib.Numerals.{add-one}
use native.Mathlib.Omega.{arith}
use lib.IntN.{pos}
use lib.ListN.{length, take, drop, get_or, length-take, length-drop}
use lib.Seq.{length-sets}
use Rattle.sections.specs.Parts.{bins_in, rays_in}
use Rattle.base_format.specs.Good.{GoodCut}
use Rattle.sections.specs.Verdict.{default_cut}
use Rattle.sections.specs.declared.Cut.{Cut}
use Rattle.stretches.specs.Stretch.{Entry, per_entry, words_of}
use Rattle.stretches.specs.Call.{house_threshold, fitting, answer_of, out_of, right_point}
use Rattle.stretches.specs.declared.Listing.{Listing}
use Rattle.cuts.specs.After.{cut_after}
use Rattle.lines.specs.Text.{entry_lines}
use Rattle.lines.specs.Words.{entries_in}
use Rattle.lines.proofs.Words.{held}
use Rattle.listing.specs.Listing.{head_of, house_list}
use Rattle.listing.specs.Progress.{cuts_in, cut_begun, list_of, text_at, part_text, text_from, AtCut, Listed, Sound, ToCome}
use Rattle.listing.specs.declared.CutPart.{CutPart}
use Rattle.listing.specs.declared.Progress.TheVariants.{Head, ToList, ToWrite, End}
use Rattle.listing.proofs.AllCuts.{good_in, few_in, next_in}
use Rattle.listing.proofs.Portion.{entries_few, entries_some, first_point, count_is, take_count, rest_is, rest_right, rest_none, rest_some}
use Rattle.listing.proofs.Texts.{no_cut, one_cut}

pub good_cut : (s : List ℕ) (part : CutPart) → AtCut s part → GoodCut s part.cut
good_cut s part o = subst (GoodCut s) (sym o.is) (good_in s part.number o.within)

-- cut i from its beginning on
pub at_first : (s : List ℕ) (i n k : ℕ) (c : Cut) → i < length (cuts_in s) → k ≡ length (cuts_in s) → c ≡ get_or (cuts_in s) i default_cut → n ≤ i * 2097152
    → AtCut s (cut_begun i k c n)
at_first s i n k c lt all is few =
    let g : GoodCut s c = subst (GoodCut s) (sym is) (good_in s i lt) in
    record {
      within = lt;
      all = all;
      is = is;
      point = first_point s c (pos house_threshold) g;
      some = entries_some s c (pos house_threshold) g;
      few = omega (arith, entries_few s c (pos house_threshold) g 0 0);
    }

module _ (s : List ℕ) (part : CutPart) (l : Listing) (x : Listed s part l) where
  abbrev c : Cut
  c = part.cut

  g : GoodCut s c
  g = good_cut s part x.at

  -- the count is that of the entries, one at least
  pub count_few : l.count ≤ length (list_of s part)
  count_few = rw x.answer (omega (arith, count_is (rays_in s c) x.room (list_of s part)))

  pub count_some : 0 < l.count
  count_some = let some = x.at.some in let one = x.for_one in rw x.answer (omega (arith, count_is (rays_in s c) x.room (list_of s part)))

  pub sum_few : part.total + l.count ≤ 64 * 2097152
  sum_few = let few = x.at.few in let within = x.at.within in omega (arith, count_few, few_in s)

  rest : house_list s c l.ray l.bin ≡ drop l.count (list_of s part)
  rest =
      subst (λ (a : Listing). house_list s c a.ray a.bin ≡ drop a.count (list_of s part)) (sym x.answer)
      (rest_is s c (pos house_threshold) g part.ray part.bin x.room)

  right : right_point (bins_in s c) (rays_in s c) l.ray l.bin ≡ true
  right =
      subst (λ (a : Listing). right_point (bins_in s c) (rays_in s c) a.ray a.bin ≡ true) (sym x.answer)
      (rest_right s c (pos house_threshold) g part.ray part.bin x.room)

  left_some : l.ray < rays_in s c → 0 < length (drop l.count (list_of s part))
  left_some =
      subst (λ (a : Listing). a.ray < rays_in s c → 0 < length (drop a.count (list_of s part))) (sym x.answer)
      (rest_some s c (pos house_threshold) g part.ray part.bin x.room)

  left_none : rays_in s c ≤ l.ray → drop l.count (list_of s part) ≡ []
  left_none =
      subst (λ (a : Listing). rays_in s c ≤ a.ray → drop a.count (list_of s part) ≡ []) (sym x.answer)
      (rest_none s c (pos house_threshold) g part.ray part.bin x.room)

  pub to_list : l.ray < rays_in s c → (ws : List ℕ)
      → ToCome s ws (part_text s part l.count) (ToList (record { number = part.number; cuts = part.cuts; cut = c; ray = l.ray; bin = l.bin; total = part.total + l.count }))
  unfolding part_text text_from Sound
  to_list h ws =
      let o = x.at in
      let size = ap length rest ∙ length-drop l.count (list_of s part) in
      let sum : part.total + l.count + length (house_list s c l.ray l.bin) ≡ part.total + length (list_of s part) = omega (arith, count_few) in
      record {
        comes = λ i. entry_lines (rest i) ++ text_at s (suc part.number) (sum i);
        sound = record {
          within = o.within;
          all = o.all;
          is = o.is;
          point = right;
          some = omega (arith, left_some h, ap length rest);
          few = let few = o.few in omega arith;
        };
      }

  -- where the list is at its end, what comes past it
  at_end : rays_in s c ≤ l.ray → part_text s part l.count ≡ text_at s (suc part.number) (part.total + l.count)
  unfolding part_text entry_lines
  at_end h =
      let none = left_none h in
      let sum : part.total + length (list_of s part) ≡ part.total + l.count = omega (arith, count_few, ap length none, length-drop l.count (list_of s part)) in
      λ i. entry_lines (none i) ++ text_at s (suc part.number) (sum i)

  pub to_end : rays_in s c ≤ l.ray → part.cuts ≤ part.number + 1 → (ws : List ℕ) → ToCome s ws (part_text s part l.count) (End (part.total + l.count))
  unfolding text_from Sound
  to_end h last ws = record { comes = sym (at_end h ∙ no_cut s (suc part.number) (part.total + l.count) (omega (arith, x.at.all))); sound = tt }

  pub to_head : rays_in s c ≤ l.ray → part.number + 1 < part.cuts → (d : Cut) → d ≡ cut_after s c → (u : CutPart) → u ≡ cut_begun (part.number + 1) part.cuts d (part.total + l.count)
      → (ws : List ℕ) → ToCome s ws (part_text s part l.count) (Head u)
  unfolding text_from part_text Sound
  to_head h more d e u begun ws =
      let o = x.at in
      let lt : suc part.number < length (cuts_in s) = omega (arith, o.all) in
      let is : d ≡ get_or (cuts_in s) (suc part.number) default_cut = e ∙ ap (cut_after s) o.is ∙ sym (next_in s part.number lt) in
      let one : suc part.number ≡ part.number + 1 = sym (add-one part.number) in
      let L : List Entry = house_list s d 0 0 in
      let n : ℕ = part.total + l.count in
      subst (λ (z : CutPart). ToCome s ws (part_text s part l.count) (Head z)) (sym begun)
      (record {
        comes = sym (at_end h ∙ one_cut s (suc part.number) n lt d is ∙ (λ i. head_of s (one i) d ++ (entry_lines L ++ text_at s (suc (one i)) (n + length L))));
        sound = at_first s (part.number + 1) n part.cuts d (omega (arith, o.all)) o.all (rw (← one) is) (let few = o.few in omega (arith, count_few));
      })

-- ---- a listing, and the words that it leaves
pub to_write : (s : List ℕ) (part : CutPart) (ws : List ℕ) (l : Listing) (w : List ℕ) → AtCut s part → per_entry ≤ length ws
    → l ≡ answer_of (rays_in s part.cut) (length ws) (list_of s part) → w ≡ out_of ws (list_of s part) → ToCome s w (part_text s part 0) (ToWrite part l 0)
unfolding text_from Sound
to_write s part ws l w o one a e =
    let L : List Entry = list_of s part in
    let x : Listed s part l = record { at = o; room = length ws; for_one = one; answer = a } in
    let size : length w ≡ length ws = ap length e ∙ out_length ws L in
    let count : l.count ≡ min (length ws / per_entry) (length L) = ap (λ (z : Listing). z.count) a ∙ count_is (rays_in s part.cut) (length ws) L in
    let fits : l.count ≡ length (fitting (length ws) L) = count ∙ sym (length-take (length ws / per_entry) L) in
    let same : fitting (length ws) L ≡ take l.count L = take_count (rays_in s part.cut) (length ws) L ∙ ap (λ (z : Listing). take z.count L) (sym a) in
    record {
      comes = refl;
      sound = record {
        listed = x;
        inside = omega arith;
        holds = (λ i. entries_in (e i) 0 (fits i)) ∙ held ws L ∙ same;
        some_left = count_some s part l x;
      };
    }
  where
    out_length : (ws : List ℕ) (L : List Entry) → length (out_of ws L) ≡ length ws
    out_length ws L = unfold out_of in length-sets ws 0 (words_of (fitting (length ws) L))
