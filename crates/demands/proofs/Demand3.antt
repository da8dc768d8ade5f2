-- DEMAND 3. For an accepted file, any cut of it and any permitted threshold, the stretch list holds every longest stretch of one kind on each ray, each
-- exactly once, by ray and then by first bin, and nothing else; the kinds are those of demand 2's bins. Fetched in portions from the first bin, with
-- room for an entry each time and each next point handed back, the portions joined are that list, the fetching can always go on, and it ends.
-- The idea: a call hands over the front of the list from its point, and the list from the next point is what it left.
use Prim.Native.Nat.{ℕ, suc, ◌-◌, ◌*◌, ◌/◌, ◌≤◌, ◌<◌}
use mathlib.Core.Path.{◌≡◌, refl, sym, ◌∙◌, ap, subst}
use mathlib.Core.List.{List, [], ◌∷◌, ◌++◌, append_assoc, append-nil}
use mathlib.Core.Bool.{Bool, true, false, ◌&&◌}
use native.Mathlib.Omega.{arith}
use borrow.Author.Tests.{lt-ltb, le-leb, leb-true}
use lib.Dec.{leb}
use lib.ListN.{length, get_or, take, drop, length-drop, take-append-drop}
use lib.Seq.{take_at}
use lib.IntN.{ℤ}
use Rattle.lent.specs.Lent.{front}
use Rattle.sections.specs.Parts.{bins_in, rays_in}
use Rattle.base_format.specs.Parts.{data_at, product_in, greatest_in, levels_in, level_in}
use Rattle.sections.specs.Verdict.{default_cut}
use Rattle.base_format.specs.Accepted.{Accepted}
use Rattle.sections.specs.declared.Cut.{Cut}
use Rattle.base_format.proofs.GoodCuts.{good_accepted}
use Rattle.stretches.specs.Stretch.{Entry, per_entry, words_of}
use Rattle.stretches.specs.Meaning.{IsStretch, IsList, Wanted}
use Rattle.stretches.specs.Call.{kind_by_threshold, fitting, answer_of, out_of, right_t, right_point}
use Rattle.stretches.specs.declared.Listing.{Listing}
use Rattle.stretches.proofs.Meaning.{one_list, is_list, list_right}
use Rattle.stretches.proofs.Portions.{from_start, from_end, from_next, next_end, next_right}
use Rattle.stretches.proofs.Answers.{count_is, words_front}
use Rattle.stretches.proofs.Laws.{length_words, words_same}
use Rattle.cuts.specs.Bins.{stretches_in}
use Rattle.polar.specs.Stretching.{stretches_on, stretch_answer, words_after}
use Rattle.calls.specs.Cuts.{judged}
use Rattle.polar.specs.Promises.{StretchesPromise}
use Rattle.demands.specs.Fetching.{Fetched, none, call}
use Rattle.demands.proofs.Demand2.{on_accepted, cut_is}
use Rattle.sections.specs.declared.Refusal.{Refusal}
use Rattle.std.specs.Prelude.{Err, Ok, Result}

module _ (s : List ℕ) (cs : List Cut) (a : Accepted s cs) (i : ℕ) (lt : i < length cs) (t : ℤ) where
  -- the cut, and its list from a point on
  abbrev pub list_of : ℕ → ℕ → List Entry
  list_of ray bin = stretches_in s (get_or cs i default_cut) t ray bin

  some_bins : 0 < bins_in s (get_or cs i default_cut)
  some_bins = (good_accepted s cs a i lt).any.bins_some

  -- ── the list is the list of the longest stretches, and only one list is ──

  pub whole_list : IsList (IsStretch (kind_by_threshold (product_in s (get_or cs i default_cut)) t) (level_in s (get_or cs i default_cut)) (bins_in s (get_or cs i default_cut)) (rays_in s (get_or cs i default_cut))) (list_of 0 0)
  unfolding stretches_in level_in levels_in
  whole_list =
      let c = get_or cs i default_cut in
      let sc = kind_by_threshold (product_in s c) t in
      subst (IsList (IsStretch sc (level_in s c) (bins_in s c) (rays_in s c)))
      (sym (from_start sc (greatest_in s c) (data_at s c.section7) (bins_in s c) (rays_in s c)))
      (is_list sc (levels_in s c) (bins_in s c) some_bins (rays_in s c))

  pub only_list : (l : List Entry)
      → IsList (IsStretch (kind_by_threshold (product_in s (get_or cs i default_cut)) t) (level_in s (get_or cs i default_cut)) (bins_in s (get_or cs i default_cut)) (rays_in s (get_or cs i default_cut))) l
      → l ≡ list_of 0 0
  only_list l k = one_list _ l (list_of 0 0) k whole_list

  -- from any point that may be asked for: the part of it that starts at or past the point
  pub part_list : (ray bin : ℕ) → right_point (bins_in s (get_or cs i default_cut)) (rays_in s (get_or cs i default_cut)) ray bin ≡ true
      → IsList (Wanted (kind_by_threshold (product_in s (get_or cs i default_cut)) t) (level_in s (get_or cs i default_cut)) (bins_in s (get_or cs i default_cut)) (rays_in s (get_or cs i default_cut)) ray bin) (list_of ray bin)
  unfolding stretches_in level_in levels_in
  part_list ray bin h =
      let c = get_or cs i default_cut in
      list_right (kind_by_threshold (product_in s c) t) (greatest_in s c) (data_at s c.section7) (bins_in s c) (rays_in s c) ray bin some_bins h

  -- ── the call ──

  pub call_lists : right_t t ≡ true → (ray bin : ℕ) → right_point (bins_in s (get_or cs i default_cut)) (rays_in s (get_or cs i default_cut)) ray bin ≡ true
      → (words words' : List ℕ) (r : Result Listing Refusal) → per_entry ≤ length words → StretchesPromise s i t ray bin words r words'
      → (r ≡ Ok (answer_of (rays_in s (get_or cs i default_cut)) (length words) (list_of ray bin)))
      × (words' ≡ front (words_of (fitting (length words) (list_of ray bin))) words)
  unfolding stretch_answer stretches_on words_after
  call_lists ht ray bin hp words words' r room p =
      let c = get_or cs i default_cut in
      let e : r ≡ Ok (answer_of (rays_in s c) (length words) (list_of ray bin)) =
      p.answer ∙ on_accepted s cs a i lt _ _ ∙ rw (ht, hp, le-leb per_entry (length words) room) in (
        e,
        p.after
            ∙ ap (λ (x : Result Listing Refusal). words_after x s i t ray bin words) e
            ∙ ap (λ (x : Cut). out_of words (stretches_in s x t ray bin)) (cut_is s cs a i lt)
            ∙ words_front words (list_of ray bin),
      )

  -- the point that it hands back may be asked for next
  pub next_asked : (ray bin n : ℕ)
      → right_point (bins_in s (get_or cs i default_cut)) (rays_in s (get_or cs i default_cut)) (answer_of (rays_in s (get_or cs i default_cut)) n (list_of ray bin)).ray (answer_of (rays_in s (get_or cs i default_cut)) n (list_of ray bin)).bin ≡ true
  unfolding stretches_in
  next_asked ray bin n =
      let c = get_or cs i default_cut in
      next_right (kind_by_threshold (product_in s c) t) (greatest_in s c) (data_at s c.section7) (bins_in s c) (rays_in s c) (record { ray = ray; bin = bin }) n some_bins

  -- ── portions ──

  -- what a call that lists says of its room and its list
  record Listing-is (ray bin : ℕ) (words words' : List ℕ) (l : Listing) : Type 0 where
    pub room : per_entry ≤ length words
    pub answer : l ≡ answer_of (rays_in s (get_or cs i default_cut)) (length words) (list_of ray bin)
    pub after : words' ≡ front (words_of (fitting (length words) (list_of ray bin))) words

  listing_is : (ray bin : ℕ) (words words' : List ℕ) (l : Listing) → StretchesPromise s i t ray bin words (Ok l) words' → Listing-is ray bin words words' l
  unfolding stretch_answer stretches_on words_after
  listing_is ray bin words words' l p =
      let c = get_or cs i default_cut in
      go (right_t t && right_point (bins_in s c) (rays_in s c) ray bin) (leb per_entry (length words)) refl (p.answer ∙ on_accepted s cs a i lt _ _)
    where
      go : (b u : Bool) → leb per_entry (length words) ≡ u
          → Ok l ≡ judged Err (get_or cs i default_cut) b u true (Ok (answer_of (rays_in s (get_or cs i default_cut)) (length words) (stretches_in s (get_or cs i default_cut) t ray bin)))
          → Listing-is ray bin words words' l
      go true true e h =
          record {
            room = leb-true _ _ e;
            answer = cc h;
            after =
                p.after
                ∙ ap (λ (x : Cut). out_of words (stretches_in s x t ray bin)) (cut_is s cs a i lt)
                ∙ words_front words (list_of ray bin);
          }
      go true false e h = let z : ◌≡◌ {A = ℕ} 0 1 = cc h in absurd (omega arith)
      go false u e h = let z : ◌≡◌ {A = ℕ} 0 1 = cc h in absurd (omega arith)

  -- the entries that a call hands over are the front of its list
  handed : (ray bin : ℕ) (words words' : List ℕ) (l : Listing) (es : List Entry) → Listing-is ray bin words words' l
      → words_of es ≡ take (per_entry * l.count) words' → es ≡ fitting (length words) (list_of ray bin)
  handed ray bin words words' l es k h =
      let fs = fitting (length words) (list_of ray bin) in
      let n : l.count ≡ length fs = ap (λ (x : Listing). x.count) k.answer ∙ count_is (rays_in s (get_or cs i default_cut)) (length words) (list_of ray bin) in
      let len = length_words fs in
      words_same es fs
      (h ∙ (λ j. take (per_entry * n j) (k.after j)) ∙ take_at (words_of fs) (drop (length (words_of fs)) words) (per_entry * length fs) len)

  left_over : (ray bin n : ℕ)
      → list_of (answer_of (rays_in s (get_or cs i default_cut)) n (list_of ray bin)).ray (answer_of (rays_in s (get_or cs i default_cut)) n (list_of ray bin)).bin ≡ drop (n / per_entry) (list_of ray bin)
  unfolding stretches_in
  left_over ray bin n =
      let c = get_or cs i default_cut in
      from_next (kind_by_threshold (product_in s c) t) (greatest_in s c) (data_at s c.section7) (bins_in s c) (rays_in s c) (record { ray = ray; bin = bin }) n

  -- what was handed over, and then what is left, is what was to be listed
  pub fetched_rest : (n ray bin ray' bin' : ℕ) (es : List Entry) → Fetched s i t n ray bin es ray' bin' → es ++ list_of ray' bin' ≡ list_of ray bin
  fetched_rest n ray bin ray' bin' es none = refl
  fetched_rest n ray bin ray' bin' all (call {n = m} {words = words} {words' = words'} {l = l} {fs = fs} es p h f) =
      let k = listing_is ray bin words words' l p in
      let L = list_of ray bin in
      append_assoc es fs (list_of ray' bin')
      ∙ (λ j. handed ray bin words words' l es k h j ++ fetched_rest m l.ray l.bin ray' bin' fs f j)
      ∙ ap (λ (x : Listing). fitting (length words) L ++ list_of x.ray x.bin) k.answer
      ∙ ap (λ (x : List Entry). fitting (length words) L ++ x) (left_over ray bin (length words))
      ∙ take-append-drop (length words / per_entry) L

  -- fetched from (0, 0) until (Nr, 0): the portions joined are the whole list
  pub fetched_all : (n : ℕ) (es : List Entry) → Fetched s i t n 0 0 es (rays_in s (get_or cs i default_cut)) 0 → es ≡ list_of 0 0
  unfolding stretches_in
  fetched_all n es f =
      let c = get_or cs i default_cut in
      let z = from_end (kind_by_threshold (product_in s c) t) (greatest_in s c) (data_at s c.section7) (bins_in s c) (rays_in s c) in
      sym (append-nil es) ∙ ap (λ (x : List Entry). es ++ x) (sym z) ∙ fetched_rest n 0 0 (rays_in s c) 0 es f

  -- the fetching ends: each call takes one entry at least, and with nothing left the point is (Nr, 0)
  fewer_left : (n ray bin ray' bin' : ℕ) (es : List Entry) → Fetched s i t n ray bin es ray' bin' → length (list_of ray' bin') ≤ length (list_of ray bin) - n
  fewer_left n ray bin ray' bin' es none = omega arith
  fewer_left n ray bin ray' bin' all (call {n = m} {words = words} {words' = words'} {l = l} {fs = fs} es p h f) =
      let k = listing_is ray bin words words' l p in
      let room = k.room in
      let e = ap (λ (x : Listing). length (list_of x.ray x.bin)) k.answer ∙ ap length (left_over ray bin (length words)) ∙ length-drop (length words / per_entry) (list_of ray bin) in
      omega (arith, fewer_left m l.ray l.bin ray' bin' fs f, e)

  last_point : (n ray bin ray' bin' : ℕ) (es : List Entry) → Fetched s i t (suc n) ray bin es ray' bin' → list_of ray' bin' ≡ []
      → (ray' ≡ rays_in s (get_or cs i default_cut)) × (bin' ≡ 0)
  unfolding stretches_in
  last_point n ray bin ray' bin' all (call {words = words} {words' = words'} {l = l} es p h none) z =
      let c = get_or cs i default_cut in
      let k = listing_is ray bin words words' l p in
      let y = ap (λ (x : Listing). list_of x.ray x.bin) (sym k.answer) ∙ z in
      let e = next_end (kind_by_threshold (product_in s c) t) (greatest_in s c) (data_at s c.section7) (bins_in s c) (rays_in s c) (record { ray = ray; bin = bin }) (length words) y in
      (ap (λ (x : Listing). x.ray) k.answer ∙ ap (λ q. q.ray) e, ap (λ (x : Listing). x.bin) k.answer ∙ ap (λ q. q.bin) e)
  last_point n ray bin ray' bin' all (call {l = l} ds p h (call {n = m} {fs = fs} es p' h' f)) z =
      last_point m l.ray l.bin ray' bin' (es ++ fs) (call es p' h' f) z

  -- after as many calls as the list has entries, and one at least, the point is (Nr, 0) and all is fetched
  pub fetching_ends : (n ray' bin' : ℕ) (es : List Entry) → Fetched s i t (suc n) 0 0 es ray' bin' → length (list_of 0 0) ≤ suc n
      → (ray' ≡ rays_in s (get_or cs i default_cut)) × (bin' ≡ 0) × (es ≡ list_of 0 0)
  fetching_ends n ray' bin' es f h =
      let z = nothing (list_of ray' bin') (omega (arith, fewer_left (suc n) 0 0 ray' bin' es f)) in
      let e = last_point n 0 0 ray' bin' es f z in
      (e.0, e.1, sym (append-nil es) ∙ ap (λ (x : List Entry). es ++ x) (sym z) ∙ fetched_rest (suc n) 0 0 ray' bin' es f)
    where
      nothing : (x : List Entry) → length x ≡ 0 → x ≡ []
      nothing [] g = refl
      nothing (y ∷ ys) g = absurd (omega arith)

  -- ── and it can always go on ──

  -- the first bin may be asked for
  pub first_asked : right_point (bins_in s (get_or cs i default_cut)) (rays_in s (get_or cs i default_cut)) 0 0 ≡ true
  unfolding right_point
  first_asked =
      let good = good_accepted s cs a i lt in
      rw (lt-ltb 0 (rays_in s (get_or cs i default_cut)) good.any.rays_some, lt-ltb 0 (bins_in s (get_or cs i default_cut)) good.any.bins_some)

  -- calls from a point that may be asked for end at one
  chain_right : (n ray bin ray' bin' : ℕ) (es : List Entry) → Fetched s i t n ray bin es ray' bin'
      → right_point (bins_in s (get_or cs i default_cut)) (rays_in s (get_or cs i default_cut)) ray bin ≡ true
      → right_point (bins_in s (get_or cs i default_cut)) (rays_in s (get_or cs i default_cut)) ray' bin' ≡ true
  chain_right n ray bin ray' bin' es none h = h
  chain_right n ray bin ray' bin' all (call {n = m} {words = words} {words' = words'} {l = l} {fs = fs} es p e f) h =
      let k = listing_is ray bin words words' l p in
      chain_right m l.ray l.bin ray' bin' fs f
      (subst (λ (x : Listing). right_point (bins_in s (get_or cs i default_cut)) (rays_in s (get_or cs i default_cut)) x.ray x.bin ≡ true) (sym k.answer) (next_asked ray bin (length words)))

  -- one call more, at the point where calls ended
  one_more : (n ray bin ray' bin' : ℕ) (es fs : List Entry) (words words' : List ℕ) (l : Listing) → Fetched s i t n ray bin es ray' bin'
      → StretchesPromise s i t ray' bin' words (Ok l) words' → words_of fs ≡ take (per_entry * l.count) words'
      → Fetched s i t (suc n) ray bin (es ++ fs) l.ray l.bin
  one_more n ray bin ray' bin' es fs words words' l none p h =
      subst (λ (x : List Entry). Fetched s i t 1 ray bin x l.ray l.bin) (append-nil fs) (call fs p h none)
  one_more n ray bin ray' bin' all fs words words' l (call {n = m} {l = k} {fs = gs} es q e f) p h =
      subst (λ (x : List Entry). Fetched s i t (suc n) ray bin x l.ray l.bin) (sym (append_assoc es gs fs))
      (call es q e (one_more m k.ray k.bin ray' bin' gs fs words words' l f p h))

  -- after n calls from (ray, bin), which handed over the entries es, a call that answers r is one call more: it lists, and the point that it hands back may be asked for next
  pub record GoesOn (n ray bin : ℕ) (es : List Entry) (r : Result Listing Refusal) : Type 0 where
    pub listing : Listing
    pub handed_over : List Entry
    pub lists : r ≡ Ok listing
    pub fetched : Fetched s i t (suc n) ray bin (es ++ handed_over) listing.ray listing.bin
    pub next : right_point (bins_in s (get_or cs i default_cut)) (rays_in s (get_or cs i default_cut)) listing.ray listing.bin ≡ true

  -- with a permitted threshold, from a point that may be asked for, as (0, 0), and with room for an entry: whatever outcome the promise allows
  pub fetching_goes_on : right_t t ≡ true → (n ray bin ray' bin' : ℕ) (es : List Entry)
      → right_point (bins_in s (get_or cs i default_cut)) (rays_in s (get_or cs i default_cut)) ray bin ≡ true → Fetched s i t n ray bin es ray' bin'
      → (words words' : List ℕ) (r : Result Listing Refusal) → per_entry ≤ length words → StretchesPromise s i t ray' bin' words r words' → GoesOn n ray bin es r
  fetching_goes_on ht n ray bin ray' bin' es start f words words' r room p =
      let nr = rays_in s (get_or cs i default_cut) in
      let L = list_of ray' bin' in
      let fs = fitting (length words) L in
      let l = answer_of nr (length words) L in
      let k = call_lists ht ray' bin' (chain_right n ray bin ray' bin' es f start) words words' r room p in
      let count : l.count ≡ length fs = count_is nr (length words) L in
      let words_are : take (per_entry * l.count) words' ≡ words_of fs =
      (λ j. take (per_entry * count j) (k.1 j)) ∙ take_at (words_of fs) (drop (length (words_of fs)) words) (per_entry * length fs) (length_words fs) in
      record {
        listing = l;
        handed_over = fs;
        lists = k.0;
        fetched = one_more n ray bin ray' bin' es fs words words' l f (subst (λ (x : Result Listing Refusal). StretchesPromise s i t ray' bin' words x words') k.0 p) (sym words_are);
        next = next_asked ray' bin' (length words);
      }
