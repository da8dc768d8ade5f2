-- The listing step by step, for any scale: where reading stands (`Going`), and what the call ends with from there on (`due`), which no step changes.
-- Bin b of ray r is place r * nb + b, also where what is in hand goes on past the ray's end and b is nb or more.
use Prim.Native.Nat.{ℕ, suc, ◌+◌, ◌-◌, ◌*◌, ◌/◌, ◌%◌, ◌≤◌, ◌<◌}
use mathlib.Core.Path.{◌≡◌, refl, ap, sym, subst, ◌∙◌}
use mathlib.Core.Bool.{Bool, true, false, cond, ◌&&◌, true≢false}
use mathlib.Core.List.{List, [], ◌∷◌}
use native.Mathlib.Nat.{add-zero, zero-mul, suc-mul, mod-eq_of_lt, div-eq_of_lt, div-add-mod', mul-add-div_right, mul-add-mod_self_right, mul-le-mul_right}
use native.Mathlib.Numerals.{add-one}
use native.Mathlib.Decide.{dec_lt}
use native.Mathlib.Omega.{arith}
use lib.ListN.{length, get_or, take, drop}
use lib.Seq.{sets, length-sets, take-nil, drop-nil}
use lib.Dec.{leb, ltb}
use borrow.Author.Tests.{ltb-true}
use Rattle.runs.specs.Run.{levels, opens, run_len}
use Rattle.runs.specs.Inner.{run_next}
use Rattle.runs.specs.Inner.{Stands}
use Rattle.runs.proofs.Here.{stands_first, here_inside, here_fits, here_level, here_next}
use Rattle.stretches.specs.Stretch.{Entry, KindOfLevel, per_entry, kind_at, starts, entry_at, list_from, from_place, words, words_of}
use Rattle.stretches.specs.Inner.{must_list}
use Rattle.stretches.specs.Call.{answer, stretches_from, answer_of, out_of}
use Rattle.stretches.specs.declared.Listing.{Listing}
use Rattle.stretches.proofs.Laws.{fresh_ray, fresh_other, quiet, starts_zero, close_list}

-- ---- places of a grid
place_ray : (nb ray bin : ℕ) → bin < nb → (ray * nb + bin) / nb ≡ ray
place_ray nb ray bin h = mul-add-div_right (omega arith) ray bin ∙ ap (λ (t : ℕ). ray + t) (div-eq_of_lt h) ∙ add-zero ray

place_bin : (nb ray bin : ℕ) → bin < nb → (ray * nb + bin) % nb ≡ bin
place_bin nb ray bin h = mul-add-mod_self_right ray nb bin ∙ mod-eq_of_lt h

-- the next ray begins where a ray ends
pub next_ray_lem : (nb ray : ℕ) → (ray + 1) * nb + 0 ≡ ray * nb + nb
next_ray_lem nb ray = omega (arith, ap (λ (x : ℕ). x * nb) (add-one ray), suc-mul ray nb)

-- a test of two parts
both : (a b : Bool) → a && b ≡ true → (a ≡ true) × (b ≡ true)
both true b e = (refl, e)
both false b e = absurd (true≢false (sym e))

-- ---- what a call ends with
pub record Outcome : Type 0 where
  pub listing : Listing
  pub out : List ℕ

-- what it promises
abbrev pub promised : ℕ → List ℕ → List Entry → Outcome
promised nr out es = record { listing = answer_of nr (length out) es; out = out_of out es }

-- two that are one agree in both parts
pub told : (p : Outcome) {r : Listing} {out : List ℕ} → p ≡ record { listing = r; out = out } → (r ≡ p.listing) × (out ≡ p.out)
told p h = (ap (λ (o : Outcome). o.listing) (sym h), ap (λ (o : Outcome). o.out) (sym h))

module _ (nr cap : ℕ) where
  -- with room for cap entries, count of them written, and es still to list
  unfoldable pub finished : List ℕ → ℕ → List Entry → Outcome
  finished out count es = record {
    listing = answer nr (count + length (take (cap - count) es)) (drop (cap - count) es);
    out = sets out (per_entry * count) (words_of (take (cap - count) es));
  }

  -- an entry is written
  finish_put : (out : List ℕ) (count : ℕ) (e : Entry) (es : List Entry) → count < cap → finished out count (e ∷ es) ≡ finished (sets out (per_entry * count) (words e)) (count + 1) es
  unfolding finished words_of
  finish_put out count e es h =
      let n : ℕ = cap - (count + 1) in
      let left : cap - count ≡ suc n = omega arith in
      let unbroken : count + suc (length (take n es)) ≡ count + 1 + length (take n es) = omega arith in
      let next : suc (suc (suc (suc (per_entry * count)))) ≡ per_entry * (count + 1) = omega arith in
      rw left (λ i. record { listing = answer nr (unbroken i) (drop n es); out = sets (sets out (per_entry * count) (words e)) (next i) (words_of (take n es)) })

  -- there is no room for one
  finish_full : (out : List ℕ) (count : ℕ) (e : Entry) (es : List Entry) → cap ≤ count
      → finished out count (e ∷ es) ≡ record { listing = record { count = count; ray = e.ray; bin = e.first }; out = out }
  unfolding finished words_of
  finish_full out count e es h = let none : cap - count ≡ 0 = omega arith in rw (none, add-zero count)

  -- all are written
  finish_all : (out : List ℕ) (count : ℕ) → finished out count [] ≡ record { listing = record { count = count; ray = nr; bin = 0 }; out = out }
  unfolding finished words_of
  finish_all out count = rw (take-nil, drop-nil, add-zero count)

-- none is written
finish_start : (nr : ℕ) (out : List ℕ) (es : List Entry) → promised nr out es ≡ finished nr (length out / per_entry) out 0 es
unfolding finished answer_of out_of
finish_start nr out es =
    let cap : ℕ = length out / per_entry in
    let left : cap ≡ cap - 0 = omega arith in
    let none : length (take cap es) ≡ 0 + length (take cap es) = omega arith in
    rw (← left) (λ i. record { listing = answer nr (none i) (drop cap es); out = sets out 0 (words_of (take cap es)) })

-- a buffer keeps its length
pub same_size : (nr cap : ℕ) (out₀ out : List ℕ) (count : ℕ) (all es : List Entry) → promised nr out₀ all ≡ finished nr cap out count es → length out ≡ length out₀
unfolding finished out_of
same_size nr cap out₀ out count all es h =
    sym (length-sets out (per_entry * count) (words_of (take (cap - count) es))) ∙ ap (λ (o : Outcome). length o.out) (sym h) ∙ length-sets out₀ 0 (words_of (take (length out₀ / per_entry) all))

-- ---- the reading
module _ (sc : KindOfLevel) (v nb nr : ℕ) (xs : List ℕ) where
  abbrev K : ℕ → ℕ
  K = kind_at sc (levels v xs)

  abbrev S : ℕ → Bool
  S = starts K nb

  abbrev E : ℕ → ℕ → Entry
  E = entry_at sc (levels v xs) nb

  -- the bins from first up to bin are in hand, of kind held; the octets from `at` on give the levels after them
  pub record Going (at ray bin first held : ℕ) : Type 0 where
    pub first_lt : first < nb
    pub first_le : first ≤ bin
    pub here_le : ray * nb + bin ≤ nr * nb
    pub stands : Stands v xs at (ray * nb + bin)
    pub same : (x : ℕ) → ray * nb + first ≤ x → x < ray * nb + bin → K x ≡ held
    pub new : S (ray * nb + first) ≡ true

  -- where the listing begins
  pub going_start : 0 < nb → opens v xs ≡ true → Going 0 0 0 0 0
  going_start some o =
      let z : 0 * nb + 0 ≡ 0 = omega (arith, zero-mul nb) in
      record {
        first_lt = some;
        first_le = omega arith;
        here_le = omega (arith, z);
        stands = subst (Stands v xs 0) (sym z) (stands_first v xs o);
        same = λ x a b. absurd (omega arith);
        new = subst (λ (p : ℕ). S p ≡ true) (sym z) (starts_zero K nb);
      }

  -- a ray that is not past the last one
  pub ray_le : {at ray bin first held : ℕ} → Going at ray bin first held → ray ≤ nr
  ray_le {ray = ray} g = go (dec_lt nr ray)
    where
      go : Dec (nr < ray) → ray ≤ nr
      go (yes h) = absurd (omega (arith, g.here_le, g.first_lt, mul-le-mul_right nb h, suc-mul nr nb))
      go (no h) = omega arith

  -- the bins of a ray from first up to end are a longest stretch, or none
  pub record Closing (ray first end held : ℕ) : Type 0 where
    pub first_lt : first < nb
    pub first_le : first ≤ end
    pub in_ray : end ≤ nb
    pub end_le : ray * nb + end ≤ nr * nb
    pub same : (x : ℕ) → ray * nb + first ≤ x → x < ray * nb + end → K x ≡ held
    pub new : S (ray * nb + first) ≡ true
    pub next : S (ray * nb + end) ≡ true

  -- ---- the next run, within a ray
  module _ (full : length (levels v xs) ≡ nr * nb) {at ray bin first held : ℕ} (g : Going at ray bin first held) (in_ray : bin < nb) (ray-lt : ray < nr) where
    abbrev p : ℕ
    p = ray * nb + bin

    abbrev kind : ℕ
    kind = sc.kind (get_or xs at 0)

    unbroken : p < length (levels v xs)
    unbroken = omega (arith, full, mul-le-mul_right nb ray-lt, suc-mul ray nb)

    pub run_inside : at < length xs
    run_inside = here_inside v xs at p g.stands unbroken

    pub run_fits : p + run_len v xs at ≤ nr * nb
    run_fits = omega (arith, full, here_fits v xs at p g.stands unbroken)

    run_kind : (x : ℕ) → p ≤ x → x < p + run_len v xs at → K x ≡ kind
    run_kind x l u = ap sc.kind (here_level v xs at p g.stands unbroken x l u)

    -- a run of another kind begins a stretch, and the stretch in hand ends
    starts_other : (kind ≡ held → ⊥) → S p ≡ true
    starts_other n = go (dec_lt first bin)
      where
        go : Dec (first < bin) → S p ≡ true
        go (yes l) =
            fresh_other nb p (K p) (K (p - 1)) (λ z. omega (arith, place_bin nb ray bin in_ray))
            (λ e. n (sym (run_kind p (omega arith) (omega arith)) ∙ e ∙ g.same (p - 1) (omega arith) (omega arith)))
        go (no l) = let e : first ≡ bin = omega (arith, g.first_le) in subst (λ (b : ℕ). S (ray * nb + b) ≡ true) e g.new

    pub changing : (kind ≡ held → ⊥) → Closing ray first bin held
    changing n = record {
      first_lt = g.first_lt;
      first_le = g.first_le;
      in_ray = omega arith;
      end_le = g.here_le;
      same = g.same;
      new = g.new;
      next = starts_other n;
    }

    pub going_changed : (kind ≡ held → ⊥) → Going at ray bin bin kind
    going_changed n = record {
      first_lt = in_ray;
      first_le = omega arith;
      here_le = g.here_le;
      stands = g.stands;
      same = λ x a b. absurd (omega arith);
      new = starts_other n;
    }

    -- a run of the kind in hand is taken
    pub going_on : kind ≡ held → (len next : ℕ) → len ≡ run_len v xs at → next ≡ run_next v xs at → Going next ray (bin + len) first held
    going_on k len next l n =
        let e : p + len ≡ ray * nb + (bin + len) = omega arith in
        record {
          first_lt = g.first_lt;
          first_le = omega (arith, g.first_le);
          here_le = omega (arith, run_fits);
          stands = subst (Stands v xs next) e (here_next v xs at p g.stands unbroken len next l n).1;
          same = λ x a b. go x a (omega arith) (dec_lt x p);
          new = g.new;
        }
      where
        go : (x : ℕ) → ray * nb + first ≤ x → x < p + run_len v xs at → Dec (x < p) → K x ≡ held
        go x a b (yes h) = g.same x a h
        go x a b (no h) = run_kind x (omega arith) b ∙ k

  -- ---- what is in hand reaches the end of the ray
  module _ {at ray bin first held : ℕ} (g : Going at ray bin first held) (over : nb ≤ bin) where
    starts_ray : S (ray * nb + nb) ≡ true
    starts_ray =
        fresh_ray nb (ray * nb + nb) (K (ray * nb + nb)) (K (ray * nb + nb - 1))
        (ap (λ (x : ℕ). x % nb) (omega (arith, next_ray_lem nb ray)) ∙ place_bin nb (ray + 1) 0 (omega (arith, g.first_lt)))

    pub ending : Closing ray first nb held
    ending = record {
      first_lt = g.first_lt;
      first_le = omega (arith, g.first_lt);
      in_ray = omega arith;
      end_le = omega (arith, g.here_le);
      same = λ x a b. g.same x a (omega arith);
      new = g.new;
      next = starts_ray;
    }

    -- the rest of it is in hand on the next ray
    pub going_ended : Going at (ray + 1) (bin - nb) 0 held
    going_ended =
        let here : (ray + 1) * nb + (bin - nb) ≡ ray * nb + bin = omega (arith, next_ray_lem nb ray) in
        let start : ray * nb + nb ≡ (ray + 1) * nb + 0 = omega (arith, next_ray_lem nb ray) in
        record {
          first_lt = omega (arith, g.first_lt);
          first_le = omega arith;
          here_le = omega (arith, g.here_le);
          stands = subst (Stands v xs at) (sym here) g.stands;
          same = λ x a b. g.same x (omega (arith, g.first_lt)) (omega arith);
          new = subst (λ (x : ℕ). S x ≡ true) start starts_ray;
        }

  -- ---- the writing, with room for cap entries
  module _ (q cap : ℕ) where
    -- the list from place s on
    abbrev onward : ℕ → List Entry
    onward s = from_place nb q (list_from S E s (nr * nb - s))

    -- what the call ends with, where count entries are written and the list from bin first of a ray on is still to write
    abbrev pub due : List ℕ → ℕ → ℕ → ℕ → Outcome
    due out count ray first = finished nr cap out count (onward (ray * nb + first))

    -- nothing is left
    pub ended : {at ray bin first held : ℕ} → Going at ray bin first held → nr ≤ ray → (out : List ℕ) (count : ℕ)
        → due out count ray first ≡ record { listing = record { count = count; ray = nr; bin = 0 }; out = out }
    unfolding list_from from_place
    ended {at} {ray} {bin} {first} {held} g h out count =
        let r : ray * nb ≡ nr * nb = ap (λ (x : ℕ). x * nb) (omega (arith, ray_le g)) in
        let z : nr * nb - (ray * nb + first) ≡ 0 = omega arith in
        ap (λ (m : ℕ). finished nr cap out count (from_place nb q (list_from S E (ray * nb + first) m))) z ∙ finish_all nr cap out count

    module _ {ray first end held : ℕ} (c : Closing ray first end held) where
      abbrev s : ℕ
      s = ray * nb + first

      abbrev e : ℕ
      e = ray * nb + end

      abbrev entry : Entry
      entry = record { ray = ray; first = first; len = end - first; kind = held }

      closed : onward s ≡ cond (must_list q s e) (E s (e - s) ∷ onward e) (onward e)
      closed =
          let size : nr * nb - s ≡ e - s + (nr * nb - e) = omega (arith, c.end_le, c.first_le) in
          let still : (x : ℕ) → suc s ≤ x → x < suc s + (e - suc s) → S x ≡ false =
          λ x a b. quiet K nb s (e - s) held (omega (arith, place_bin nb ray first c.first_lt, c.in_ray, c.first_le)) (λ y d f. c.same y d (omega arith)) x a (omega arith) in
          ap (λ (m : ℕ). from_place nb q (list_from S E s m)) size
          ∙ close_list S E nb (λ p n. div-add-mod' p nb) q s e (nr * nb - e) (omega (arith, c.first_le)) c.new still c.next

      -- a stretch to list has a bin
      has_bin : must_list q s e ≡ true → s < e
      unfolding must_list
      has_bin h = ltb-true s e (both (leb q s) (ltb s e) h).1

      -- it is an entry, the next of the list
      listed_next : must_list q s e ≡ true → onward s ≡ entry ∷ onward e
      listed_next h =
          let r = place_ray nb ray first c.first_lt in
          let b = place_bin nb ray first c.first_lt in
          let n : e - s ≡ end - first = omega arith in
          let k = c.same s (omega arith) (has_bin h) in
          closed ∙ ap (λ (u : Bool). cond u (E s (e - s) ∷ onward e) (onward e)) h ∙ λ i. record { ray = r i; first = b i; len = n i; kind = k i } ∷ onward e

      -- one that is not to list is passed over
      pub passed : {wanted : Bool} → wanted ≡ must_list q s e → wanted ≡ false → (out : List ℕ) (count : ℕ) → due out count ray first ≡ due out count ray end
      passed w h out count = ap (finished nr cap out count) (closed ∙ ap (λ (u : Bool). cond u (E s (e - s) ∷ onward e) (onward e)) (sym w ∙ h))

      -- one to list is written
      pub wrote : {wanted : Bool} → wanted ≡ must_list q s e → wanted ≡ true → (out out' : List ℕ) (count : ℕ) → count < cap → out' ≡ sets out (per_entry * count) (words entry) → due out count ray first ≡ due out' (count + 1) ray end
      wrote w h out out' count l o =
          ap (finished nr cap out count) (listed_next (sym w ∙ h)) ∙ finish_put nr cap out count entry (onward e) l ∙ ap (λ (x : List ℕ). due x (count + 1) ray end) (sym o)

      -- or there is no room for it, and the next call begins with it
      pub stuck : {wanted : Bool} → wanted ≡ must_list q s e → wanted ≡ true → (out : List ℕ) (count : ℕ) → cap ≤ count
          → due out count ray first ≡ record { listing = record { count = count; ray = ray; bin = first }; out = out }
      stuck w h out count l = ap (finished nr cap out count) (listed_next (sym w ∙ h)) ∙ finish_full nr cap out count entry (onward e) l

  -- where the listing begins, all that is promised is due
  pub due_start : (q : ℕ) (out : List ℕ) → promised nr out (stretches_from sc v xs nb nr q) ≡ due q (length out / per_entry) out 0 0 0
  unfolding stretches_from
  due_start q out =
      let z : 0 ≡ 0 * nb + 0 = omega (arith, zero-mul nb) in
      let left : nr * nb ≡ nr * nb - (0 * nb + 0) = omega arith in
      finish_start nr out (stretches_from sc v xs nb nr q) ∙ λ i. finished nr (length out / per_entry) out 0 (from_place nb q (list_from S E (z i) (left i)))
