-- One listing of a cut: how many entries it takes from the list, what the next point has to list, and that a cut has an entry.
use Prim.Native.Nat.{ℕ, zero, suc, ◌+◌, ◌*◌, ◌/◌, ◌≤◌, ◌<◌, min}
use mathlib.Core.Path.{◌≡◌, refl, sym, ap, ◌∙◌}
use mathlib.Core.Bool.{Bool, true, false, cond, ◌&&◌}
use mathlib.Core.List.{List, [], ◌∷◌}
use native.Mathlib.Nat.{zero-mod, mul-le-mul}
use native.Mathlib.Omega.{arith}
use borrow.Author.Tests.{lt-ltb, le-ltb, eqb-true}
use lib.Dec.{leb, eqb}
use lib.ListN.{length, take, drop, length-take, drop_of_length-le}
use lib.Seq.{take_all}
use lib.IntN.{ℤ}
use Rattle.runs.specs.Run.{levels}
use Rattle.octets.proofs.Orders.{by_order}
use Rattle.sections.specs.Parts.{bins_in, rays_in}
use Rattle.base_format.specs.Parts.{product_in, greatest_in, data_at}
use Rattle.base_format.specs.Good.{GoodCut}
use Rattle.sections.specs.declared.Cut.{Cut}
use Rattle.stretches.specs.Stretch.{Entry, per_entry, kind_at, begins_after, starts, entry_at, unbroken, list_from, stretches_of, from_place}
use Rattle.stretches.specs.Call.{kind_by_threshold, stretches_from, fitting, answer, answer_of, right_point}
use Rattle.stretches.specs.declared.Listing.{Listing}
use Rattle.stretches.proofs.Portions.{from_start, from_end, from_next, next_right}
use Rattle.cuts.specs.Bins.{stretches_in}
use Rattle.cuts.proofs.Places.{few_bins}

-- ---- the list is no longer than the grid, and has an entry
list_few : (S : ℕ → Bool) (E : ℕ → ℕ → Entry) (p m : ℕ) → length (list_from S E p m) ≤ m
unfolding list_from
list_few S E p zero = omega arith
list_few S E p (suc m) = go (S p) (list_few S E (suc p) m)
  where
    go : (b : Bool) → length (list_from S E (suc p) m) ≤ m → length (cond b (E p (suc (unbroken S (suc p) m)) ∷ list_from S E (suc p) m) (list_from S E (suc p) m)) ≤ suc m
    go true h = omega arith
    go false h = omega arith

past_few : (nb q : ℕ) (l : List Entry) → length (from_place nb q l) ≤ length l
unfolding from_place
past_few nb q [] = omega arith
past_few nb q (e ∷ l) = go (leb q (e.ray * nb + e.first)) (past_few nb q l)
  where
    go : (b : Bool) → length (from_place nb q l) ≤ length l → length (cond b (e ∷ from_place nb q l) (from_place nb q l)) ≤ suc (length l)
    go true h = omega arith
    go false h = omega arith

list_some : (S : ℕ → Bool) (E : ℕ → ℕ → Entry) (m : ℕ) → 0 < m → S 0 ≡ true → 0 < length (list_from S E 0 m)
unfolding list_from
list_some S E zero h b = absurd (omega arith)
list_some S E (suc m) h b = rw b (omega arith)

first_starts : (K : ℕ → ℕ) (nb : ℕ) → starts K nb 0 ≡ true
unfolding begins_after
first_starts K nb = rw (zero-mod nb)

module _ (s : List ℕ) (c : Cut) (t : ℤ) (g : GoodCut s c) where
  pub entries_few : (ray bin : ℕ) → length (stretches_in s c t ray bin) ≤ 2097152
  unfolding stretches_in stretches_from
  entries_few ray bin =
      let ls = levels (greatest_in s c) (data_at s c.section7) in
      let sc = kind_by_threshold (product_in s c) t in
      omega (arith, past_few (bins_in s c) (ray * bins_in s c + bin) (stretches_of sc ls (bins_in s c) (rays_in s c * bins_in s c)), list_few (starts (kind_at sc ls) (bins_in s c)) (entry_at sc ls (bins_in s c)) 0 (rays_in s c * bins_in s c), few_bins s c g)

  pub entries_some : 0 < length (stretches_in s c t 0 0)
  unfolding stretches_in
  entries_some =
      let ls = levels (greatest_in s c) (data_at s c.section7) in
      let sc = kind_by_threshold (product_in s c) t in
      let bins : 1 * 1 ≤ rays_in s c * bins_in s c = mul-le-mul g.any.rays_some g.any.bins_some in
      rw (from_start sc (greatest_in s c) (data_at s c.section7) (bins_in s c) (rays_in s c))
      (list_some (starts (kind_at sc ls) (bins_in s c)) (entry_at sc ls (bins_in s c)) (rays_in s c * bins_in s c) (omega arith) (first_starts (kind_at sc ls) (bins_in s c)))

  pub first_point : right_point (bins_in s c) (rays_in s c) 0 0 ≡ true
  unfolding right_point
  first_point = let b = g.any.bins_some in let r = g.any.rays_some in rw (lt-ltb 0 (rays_in s c) (omega arith), lt-ltb 0 (bins_in s c) (omega arith))

-- ---- an answer for a list

-- what is the same from k on is the same at n as at the least of n and k
at_most : (f : ℕ → List Entry) (k n : ℕ) → ((i j : ℕ) → k ≤ i → k ≤ j → f i ≡ f j) → f n ≡ f (min n k)
at_most f k n same = by_order n k (λ h. let e : n ≡ min n k = omega arith in ap f e) (λ h. same n (min n k) (omega arith) (omega arith))

module _ (nr room : ℕ) (L : List Entry) where
  pub count_is : (answer_of nr room L).count ≡ min (room / per_entry) (length L)
  unfolding answer_of
  count_is = go (drop (room / per_entry) L) ∙ length-take (room / per_entry) L
    where
      go : (r : List Entry) → (answer nr (length (fitting room L)) r).count ≡ length (fitting room L)
      go [] = refl
      go (e ∷ es) = refl

  -- dropping as many as there is room for, or as many as were listed, is the same
  pub drop_count : drop (room / per_entry) L ≡ drop (answer_of nr room L).count L
  drop_count =
      rw count_is
      (at_most (λ n. drop n L) (length L) (room / per_entry) (λ i j p q. drop_of_length-le L {i = i} p ∙ sym (drop_of_length-le L {i = j} q)))

  pub take_count : take (room / per_entry) L ≡ take (answer_of nr room L).count L
  take_count = rw count_is (at_most (λ n. take n L) (length L) (room / per_entry) (λ i j p q. take_all i L p ∙ sym (take_all j L q)))

  before_last : (answer_of nr room L).ray < nr → 0 < length (drop (room / per_entry) L)
  unfolding answer_of
  before_last = go (drop (room / per_entry) L)
    where
      go : (r : List Entry) → (answer nr (length (fitting room L)) r).ray < nr → 0 < length r
      go [] h = absurd (omega arith)
      go (e ∷ es) h = omega arith

-- of the right points only (Nr, 0) is past the last ray
last_point : (nb nr ray bin : ℕ) → right_point nb nr ray bin ≡ true → nr ≤ ray → (ray ≡ nr) × (bin ≡ 0)
unfolding right_point
last_point nb nr ray bin right h = go (eqb ray nr) refl (eqb bin 0) refl (rw (le-ltb ray nr h) at right)
  where
    go : (a : Bool) → eqb ray nr ≡ a → (b : Bool) → eqb bin 0 ≡ b → (a && b) ≡ true → (ray ≡ nr) × (bin ≡ 0)
    go true p true q e = (eqb-true ray nr p, eqb-true bin 0 q)
    go true p false q e = let z : ◌≡◌ {A = ℕ} 0 1 = cc in absurd (omega arith)
    go false p b q e = let z : ◌≡◌ {A = ℕ} 0 1 = cc in absurd (omega arith)

nothing_past : (s : List ℕ) (c : Cut) (t : ℤ) → stretches_in s c t (rays_in s c) 0 ≡ []
unfolding stretches_in
nothing_past s c t = from_end (kind_by_threshold (product_in s c) t) (greatest_in s c) (data_at s c.section7) (bins_in s c) (rays_in s c)

module _ (s : List ℕ) (c : Cut) (t : ℤ) (g : GoodCut s c) (ray bin room : ℕ) where
  abbrev L : List Entry
  L = stretches_in s c t ray bin

  abbrev A : Listing
  A = answer_of (rays_in s c) room L

  -- what the next point has to list is what is left
  pub rest_is : stretches_in s c t A.ray A.bin ≡ drop A.count L
  unfolding stretches_in
  rest_is =
      from_next (kind_by_threshold (product_in s c) t) (greatest_in s c) (data_at s c.section7) (bins_in s c) (rays_in s c) (record { ray = ray; bin = bin }) room
      ∙ drop_count (rays_in s c) room (stretches_from (kind_by_threshold (product_in s c) t) (greatest_in s c) (data_at s c.section7) (bins_in s c) (rays_in s c) (ray * bins_in s c + bin))

  pub rest_right : right_point (bins_in s c) (rays_in s c) A.ray A.bin ≡ true
  unfolding stretches_in
  rest_right = next_right (kind_by_threshold (product_in s c) t) (greatest_in s c) (data_at s c.section7) (bins_in s c) (rays_in s c) (record { ray = ray; bin = bin }) room g.any.bins_some

  -- at the last point nothing is left, and before it something is
  pub rest_none : rays_in s c ≤ A.ray → drop A.count L ≡ []
  rest_none h =
      let e = last_point (bins_in s c) (rays_in s c) A.ray A.bin rest_right h in
      sym rest_is ∙ (λ i. stretches_in s c t (e.0 i) (e.1 i)) ∙ nothing_past s c t

  pub rest_some : A.ray < rays_in s c → 0 < length (drop A.count L)
  rest_some h = rw (← drop_count (rays_in s c) room L) (before_last (rays_in s c) room L h)
