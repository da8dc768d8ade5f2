-- `list_from` makes the list of longest stretches, and there is one such list only.
use Prim.Native.Nat.{ℕ, zero, suc, ◌+◌, ◌-◌, ◌*◌, ◌/◌, ◌%◌, ◌≤◌, ◌<◌}
use mathlib.Core.Path.{◌≡◌, refl, ap, sym, subst, ◌∙◌}
use mathlib.Core.Logic.{◌⊎◌, inl, inr, ⊎_elim}
use mathlib.Core.Bool.{Bool, true, false, cond}
use mathlib.Core.List.{List, [], ◌∷◌}
use native.Mathlib.Nat.{add-zero, add-suc, suc-mul, suc-mod, mod_self, mod-lt, mod-eq_of_lt, div-add-mod', div-lt_iff_lt-mul, div-eq_of_lt, mul-add-div_right, mul-add-mod_self_right, mul-le-mul_right}
use native.Mathlib.Decide.{dec_lt}
use native.Mathlib.Omega.{arith}
use lib.ListN.{get_or}
use lib.Dec.{leb}
use borrow.Author.Tests.{le-leb, leb-true}
use Rattle.runs.specs.Run.{levels}
use Rattle.stretches.specs.Call.{stretches_from, right_point}
use Rattle.stretches.proofs.Points.{point_bin}
use Rattle.stretches.proofs.Laws.{fresh_ray, fresh_other, fresh_false, fresh_true, mod_in_ray, more_quiet, more_stop}
use Rattle.stretches.specs.Stretch.{Entry, KindOfLevel, kind_at, starts, unbroken, entry_at, list_from, stretches_of, from_place}
use Rattle.stretches.specs.Meaning.{IsStretch, In, Before, Ordered, IsList, AtOrPast, Wanted}

-- ---- one list only

not_both : (e d : Entry) → Before e d → Before d e → ⊥
not_both e d (inl a) (inl b) = omega arith
not_both e d (inl a) (inr b) = omega (arith, b.0)
not_both e d (inr a) (inl b) = omega (arith, a.0)
not_both e d (inr a) (inr b) = omega (arith, a.1, b.1)

same_members : (l l' : List Entry) → Ordered l → Ordered l' → ((e : Entry) → In e l → In e l') → ((e : Entry) → In e l' → In e l) → l ≡ l'
unfolding In Ordered
same_members [] [] o o' f g = refl
same_members [] (d ∷ ds) o o' f g = absurd (g d (inl refl))
same_members (e ∷ es) [] o o' f g = absurd (f e (inl refl))
same_members (e ∷ es) (d ∷ ds) o o' f g =
    let h : e ≡ d = heads (f e (inl refl)) (g d (inl refl)) in
    let t : es ≡ ds = same_members es ds o.1 o'.1 (λ x i. tail_f h x i (f x (inr i))) (λ x i. tail_g h x i (g x (inr i))) in
    cc
  where
    heads : (e ≡ d) ⊎ In e ds → (d ≡ e) ⊎ In d es → e ≡ d
    heads (inl p) q = p
    heads (inr p) (inl q) = sym q
    heads (inr p) (inr q) = absurd (not_both e d (o.0 d q) (o'.0 e p))

    tail_f : e ≡ d → (x : Entry) → In x es → (x ≡ d) ⊎ In x ds → In x ds
    tail_f h x i (inl p) = absurd (not_both e e (subst (Before e) (p ∙ sym h) (o.0 x i)) (subst (Before e) (p ∙ sym h) (o.0 x i)))
    tail_f h x i (inr p) = p

    tail_g : e ≡ d → (x : Entry) → In x ds → (x ≡ e) ⊎ In x es → In x es
    tail_g h x i (inl p) = absurd (not_both d d (subst (Before d) (p ∙ h) (o'.0 x i)) (subst (Before d) (p ∙ h) (o'.0 x i)))
    tail_g h x i (inr p) = p

pub one_list : (P : Entry → Type 0) (l l' : List Entry) → IsList P l → IsList P l' → l ≡ l'
one_list P l l' i i' =
    same_members l l' i.ordered i'.ordered (λ e h. i'.all e (i.only e h)) (λ e h. i.all e (i'.only e h))

-- ---- what stands in the list

-- two stretches that begin at one bin are one
same_stretch : (sc : KindOfLevel) (lv : ℕ → ℕ → ℕ) (nb nr : ℕ) (e d : Entry) → IsStretch sc lv nb nr e → IsStretch sc lv nb nr d → e.ray ≡ d.ray → e.first ≡ d.first → e ≡ d
same_stretch sc lv nb nr e d s t r f =
    let kd : e.kind ≡ d.kind = sym (s.same e.first (omega arith) (omega (arith, s.some))) ∙ ap (λ (x : ℕ). sc.kind (lv x e.first)) r ∙ t.same e.first (omega arith) (omega (arith, t.some)) in
    let l : e.len ≡ d.len = lengths kd (dec_lt e.len d.len) (dec_lt d.len e.len) in
    λ i. record { ray = r i; first = f i; len = l i; kind = kd i }
  where
    lengths : e.kind ≡ d.kind → Dec (e.len < d.len) → Dec (d.len < e.len) → e.len ≡ d.len
    lengths q (yes a) b =
        absurd (s.after (omega (arith, t.in_ray)) (ap (λ (x : ℕ). sc.kind (lv x (e.first + e.len))) r ∙ t.same (e.first + e.len) (omega arith) (omega arith) ∙ sym q))
    lengths q (no a) (yes b) =
        absurd (t.after (omega (arith, s.in_ray)) (ap (λ (x : ℕ). sc.kind (lv x (d.first + d.len))) (sym r) ∙ s.same (d.first + d.len) (omega arith) (omega arith) ∙ q))
    lengths q (no a) (no b) = omega arith

module _ (sc : KindOfLevel) (ls : List ℕ) (nb : ℕ) (nbp : 0 < nb) where
  -- the level of bin b of ray r
  abbrev pub level : ℕ → ℕ → ℕ
  level r b = get_or ls (r * nb + b) 0

  abbrev K : ℕ → ℕ
  K = kind_at sc ls

  abbrev S : ℕ → Bool
  S = starts K nb

  abbrev E : ℕ → ℕ → Entry
  E = entry_at sc ls nb

  module _ (p m : ℕ) (h : S p ≡ true) where
    abbrev len : ℕ
    len = suc (unbroken S (suc p) m)

    -- the bins of the stretch that begins at p are in p's ray, and of p's kind
    along : (i : ℕ) → i < len → ((p + i) % nb ≡ p % nb + i) × (K (p + i) ≡ K p)
    along zero l = rw (add-zero p, add-zero (p % nb)) (refl, refl)
    along (suc i) l =
        let ih = along i (omega arith) in
        let x : p + suc i ≡ suc (p + i) = add-suc p i in
        let f = fresh_false nb (p + suc i) (K (p + suc i)) (K (p + suc i - 1)) (more_quiet S m (suc p) (p + suc i) (omega arith) (omega arith)) in
        let e : p + suc i - 1 ≡ p + i = omega arith in
        (step ih (λ z. f.0 (ap (λ (y : ℕ). y % nb) x ∙ z)), f.1 ∙ ap K e ∙ ih.1)
      where
        step : ((p + i) % nb ≡ p % nb + i) × (K (p + i) ≡ K p) → (suc (p + i) % nb ≡ 0 → ⊥) → (p + suc i) % nb ≡ p % nb + suc i
        step ih z =
            let a : suc (p + i) % nb ≡ suc (p % nb + i) % nb = suc-mod (p + i) nb ∙ ap (λ (y : ℕ). suc y % nb) ih.0 in
            let u : p % nb + i < nb = omega (arith, mod-lt (p + i) {m = nb} nbp, ih.0) in
            fin a (dec_lt (suc (p % nb + i)) nb) u
          where
            fin : suc (p + i) % nb ≡ suc (p % nb + i) % nb → Dec (suc (p % nb + i) < nb) → p % nb + i < nb → (p + suc i) % nb ≡ p % nb + suc i
            fin a (yes w) u = ap (λ (y : ℕ). y % nb) (add-suc p i) ∙ a ∙ mod-eq_of_lt w ∙ omega arith
            fin a (no w) u =
                let y : suc (p % nb + i) ≡ nb = omega arith in
                absurd (z (a ∙ ap (λ (t : ℕ). t % nb) y ∙ mod_self nb))

    in_ray_len : p % nb + len ≤ nb
    in_ray_len = omega (arith, (along (unbroken S (suc p) m) (omega arith)).0, mod-lt (p + unbroken S (suc p) m) {m = nb} nbp)

    place_is : (i : ℕ) → p / nb * nb + (p % nb + i) ≡ p + i
    place_is i = omega (arith, div-add-mod' p nb)

    pub is_stretch : (nr : ℕ) → p + suc m ≡ nr * nb → IsStretch sc level nb nr (E p len)
    is_stretch nr tot = record {
      in_rays = rays;
      some = omega arith;
      in_ray = in_ray_len;
      same = λ b l u.
          let i : ℕ = b - p % nb in
          let e : p / nb * nb + b ≡ p + i = omega (arith, place_is i) in
          ap K e ∙ (along i (omega arith)).1;
      before = λ b e q.
          let x : p / nb * nb + b ≡ p - 1 = omega (arith, place_is 0) in
          ⊎_elim (λ (z : p % nb ≡ 0). omega arith) (λ (w : K p ≡ K (p - 1) → ⊥). w (sym q ∙ ap K x)) (fresh_true nb p (K p) (K (p - 1)) h);
      after = λ l q.
          let x : p / nb * nb + (p % nb + len) ≡ p + len = place_is len in
          let room : suc (p / nb) * nb ≤ nr * nb = mul-le-mul_right nb rays in
          let lt : unbroken S (suc p) m < m = omega (arith, suc-mul (p / nb) nb, x) in
          let s = more_stop S m (suc p) lt in
          let y : suc p + unbroken S (suc p) m ≡ p + len = omega arith in
          let s' : S (p + len) ≡ true = subst (λ (t : ℕ). S t ≡ true) y s in
          let md : (p + len) % nb ≡ p % nb + len = mod_in_ray nb p len l in
          let b : p + len - 1 ≡ p + unbroken S (suc p) m = omega arith in
          ⊎_elim (λ (z : (p + len) % nb ≡ 0). omega arith) (λ (w : K (p + len) ≡ K (p + len - 1) → ⊥). w (ap K (sym x) ∙ q ∙ sym (along (unbroken S (suc p) m) (omega arith)).1 ∙ ap K (sym b))) (fresh_true nb (p + len) (K (p + len)) (K (p + len - 1)) s');
    }
      where
        rays : p / nb < nr
        rays = (div-lt_iff_lt-mul nbp).1 (omega arith)

  -- an entry of the list is that of a place that begins a stretch
  record Made (x m : ℕ) (e : Entry) : Type 0 where
    at : ℕ
    left : ℕ
    from : x ≤ at
    total : at + suc left ≡ x + m
    begins : S at ≡ true
    is : e ≡ E at (suc (unbroken S (suc at) left))

  later : (x m : ℕ) (e : Entry) → Made (suc x) m e → Made x (suc m) e
  later x m e d = record {
    at = d.at;
    left = d.left;
    from = omega (arith, d.from);
    total = omega (arith, d.total);
    begins = d.begins;
    is = d.is;
  }

  made : (m x : ℕ) (e : Entry) → In e (list_from S E x m) → Made x m e
  unfolding In list_from
  made zero x e i = absurd i
  made (suc m) x e i = go (S x) refl i (made m (suc x) e)
    where
      go : (b : Bool) → S x ≡ b → In e (cond b (E x (suc (unbroken S (suc x) m)) ∷ list_from S E (suc x) m) (list_from S E (suc x) m)) → (In e (list_from S E (suc x) m) → Made (suc x) m e) → Made x (suc m) e
      go true s (inl q) ih = record { at = x; left = m; from = omega arith; total = refl; begins = s; is = q }
      go true s (inr q) ih = later x m e (ih q)
      go false s q ih = later x m e (ih q)

  in_list : (m x p left : ℕ) → x ≤ p → p + suc left ≡ x + m → S p ≡ true → In (E p (suc (unbroken S (suc p) left))) (list_from S E x m)
  unfolding In list_from
  in_list zero x p left l t s = absurd (omega arith)
  in_list (suc m) x p left l t s = pick (dec_lt x p) (in_list m (suc x) p left)
    where
      pick : Dec (x < p) → (suc x ≤ p → p + suc left ≡ suc x + m → S p ≡ true → In (E p (suc (unbroken S (suc p) left))) (list_from S E (suc x) m))
          → In (E p (suc (unbroken S (suc p) left))) (cond (S x) (E x (suc (unbroken S (suc x) m)) ∷ list_from S E (suc x) m) (list_from S E (suc x) m))
      pick (yes w) ih = further (S x) (ih w (omega arith) s)
        where
          further : (b : Bool) → In (E p (suc (unbroken S (suc p) left))) (list_from S E (suc x) m)
              → In (E p (suc (unbroken S (suc p) left))) (cond b (E x (suc (unbroken S (suc x) m)) ∷ list_from S E (suc x) m) (list_from S E (suc x) m))
          further true i = inr i
          further false i = i
      pick (no w) ih =
          let e : x ≡ p = omega arith in
          let n : m ≡ left = omega arith in
          let s' : S x ≡ true = subst (λ (y : ℕ). S y ≡ true) (sym e) s in
          rw s' (inl (λ j. E (sym e j) (suc (unbroken S (suc (sym e j)) (sym n j)))))

  -- places in order are entries in order
  places_before : (x y n n' : ℕ) → x < y → Before (E x n) (E y n')
  places_before x y n n' l = go (dec_lt (x / nb) (y / nb)) (dec_lt (y / nb) (x / nb))
    where
      go : Dec (x / nb < y / nb) → Dec (y / nb < x / nb) → Before (E x n) (E y n')
      go (yes a) b = inl a
      go (no a) (yes b) =
          absurd (omega (arith, mul-le-mul_right nb b, suc-mul (y / nb) nb, div-add-mod' x nb, div-add-mod' y nb, mod-lt y {m = nb} nbp))
      go (no a) (no b) =
          let e : x / nb ≡ y / nb = omega arith in
          inr (e, omega (arith, ap (λ (t : ℕ). t * nb) e, div-add-mod' x nb, div-add-mod' y nb))

  in_order : (m x : ℕ) → Ordered (list_from S E x m)
  unfolding Ordered list_from
  in_order zero x = tt
  in_order (suc m) x = go (S x) (in_order m (suc x))
    where
      go : (b : Bool) → Ordered (list_from S E (suc x) m) → Ordered (cond b (E x (suc (unbroken S (suc x) m)) ∷ list_from S E (suc x) m) (list_from S E (suc x) m))
      go true o = (
        (λ d i.
            let t = made m (suc x) d i in
            subst (Before (E x (suc (unbroken S (suc x) m)))) (sym t.is) (places_before x t.at (suc (unbroken S (suc x) m)) (suc (unbroken S (suc t.at) t.left)) t.from)),
        o,
      )
      go false o = o

  -- the place where a stretch begins
  module _ (nr : ℕ) (e : Entry) (s : IsStretch sc level nb nr e) where
    abbrev p : ℕ
    p = e.ray * nb + e.first

    first_lt : e.first < nb
    first_lt = omega (arith, s.in_ray, s.some)

    p_ray : p / nb ≡ e.ray
    p_ray = mul-add-div_right nbp e.ray e.first ∙ ap (λ (t : ℕ). e.ray + t) (div-eq_of_lt first_lt) ∙ add-zero e.ray

    p_first : p % nb ≡ e.first
    p_first = mul-add-mod_self_right e.ray nb e.first ∙ mod-eq_of_lt first_lt

    p_lt : p < nr * nb
    p_lt = omega (arith, mul-le-mul_right nb s.in_rays, suc-mul e.ray nb, first_lt)

    p_starts : S p ≡ true
    p_starts = go (dec_lt 0 e.first)
      where
        go : Dec (0 < e.first) → S p ≡ true
        go (no w) = fresh_ray nb p (K p) (K (p - 1)) (p_first ∙ omega arith)
        go (yes w) =
            let b : ℕ = e.first - 1 in
            let x : p - 1 ≡ e.ray * nb + b = omega arith in
            fresh_other nb p (K p) (K (p - 1)) (λ z. omega (arith, p_first)) (λ q. s.before b (omega arith) (sym (ap K x) ∙ sym q ∙ s.same e.first (omega arith) (omega (arith, s.some))))

    p_in : In e (list_from S E 0 (nr * nb))
    p_in =
        let m : ℕ = nr * nb - p - 1 in
        let t : p + suc m ≡ nr * nb = omega (arith, p_lt) in
        let st = is_stretch p m p_starts nr t in
        subst (λ (d : Entry). In d (list_from S E 0 (nr * nb))) (same_stretch sc level nb nr (E p (suc (unbroken S (suc p) m))) e st s p_ray p_first)
        (in_list (nr * nb) 0 p m (omega arith) (omega arith) p_starts)

  -- the definition makes the list
  pub is_list : (nr : ℕ) → IsList (IsStretch sc level nb nr) (list_from S E 0 (nr * nb))
  is_list nr = record {
    only = λ e i.
        let t = made (nr * nb) 0 e i in
        subst (IsStretch sc level nb nr) (sym t.is) (is_stretch t.at t.left t.begins nr (omega (arith, t.total)));
    all = λ e s. p_in nr e s;
    ordered = in_order (nr * nb) 0;
  }

-- ---- those that start at a point or past it

pub past_in : (nb q : ℕ) (l : List Entry) (e : Entry) → In e (from_place nb q l) → In e l × (q ≤ e.ray * nb + e.first)
unfolding In from_place
past_in nb q [] e i = absurd i
past_in nb q (d ∷ ds) e i = go (leb q (d.ray * nb + d.first)) refl i (past_in nb q ds e)
  where
    go : (b : Bool) → leb q (d.ray * nb + d.first) ≡ b → In e (cond b (d ∷ from_place nb q ds) (from_place nb q ds)) → (In e (from_place nb q ds) → In e ds × (q ≤ e.ray * nb + e.first)) → In e (d ∷ ds) × (q ≤ e.ray * nb + e.first)
    go true h (inl p) ih = (inl p, rw p (leb-true q (d.ray * nb + d.first) h))
    go true h (inr p) ih = (inr (ih p).0, (ih p).1)
    go false h p ih = (inr (ih p).0, (ih p).1)

in_past : (nb q : ℕ) (l : List Entry) (e : Entry) → In e l → q ≤ e.ray * nb + e.first → In e (from_place nb q l)
unfolding In from_place
in_past nb q [] e i h = absurd i
in_past nb q (d ∷ ds) e (inl p) h = rw (le-leb q (d.ray * nb + d.first) (rw p at h)) (inl p)
in_past nb q (d ∷ ds) e (inr p) h = go (leb q (d.ray * nb + d.first)) (in_past nb q ds e p h)
  where
    go : (b : Bool) → In e (from_place nb q ds) → In e (cond b (d ∷ from_place nb q ds) (from_place nb q ds))
    go true i = inr i
    go false i = i

past_ordered : (nb q : ℕ) (l : List Entry) → Ordered l → Ordered (from_place nb q l)
unfolding Ordered from_place
past_ordered nb q [] o = tt
past_ordered nb q (d ∷ ds) o = go (leb q (d.ray * nb + d.first)) (past_ordered nb q ds o.1)
  where
    go : (b : Bool) → Ordered (from_place nb q ds) → Ordered (cond b (d ∷ from_place nb q ds) (from_place nb q ds))
    go true t = ((λ e i. o.0 e (past_in nb q ds e i).0), t)
    go false t = t

-- the order of places is that of rays and bins
place_past : (nb ray bin : ℕ) (e : Entry) → bin < nb → e.first < nb → ray * nb + bin ≤ e.ray * nb + e.first → AtOrPast ray bin e
place_past nb ray bin e b f h = go (dec_lt ray e.ray) (dec_lt e.ray ray)
  where
    go : Dec (ray < e.ray) → Dec (e.ray < ray) → AtOrPast ray bin e
    go (yes a) c = inl a
    go (no a) (yes c) = absurd (omega (arith, mul-le-mul_right nb c, suc-mul e.ray nb))
    go (no a) (no c) = let r : ray ≡ e.ray = omega arith in inr (r, omega (arith, ap (λ (t : ℕ). t * nb) r))

past_place : (nb ray bin : ℕ) (e : Entry) → bin < nb → AtOrPast ray bin e → ray * nb + bin ≤ e.ray * nb + e.first
past_place nb ray bin e b (inl a) = omega (arith, mul-le-mul_right nb a, suc-mul ray nb)
past_place nb ray bin e b (inr a) = omega (arith, ap (λ (t : ℕ). t * nb) a.0, a.1)

-- the call's list, for any scale
pub listed_is : (sc : KindOfLevel) (v : ℕ) (xs : List ℕ) (nb nr ray bin : ℕ) → bin < nb
    → IsList (Wanted sc (λ r b. get_or (levels v xs) (r * nb + b) 0) nb nr ray bin) (stretches_from sc v xs nb nr (ray * nb + bin))
unfolding stretches_from
listed_is sc v xs nb nr ray bin h =
    let w = is_list sc (levels v xs) nb (omega arith) nr in
    let l : List Entry = stretches_of sc (levels v xs) nb (nr * nb) in
    record {
      only = λ e i.
          let s = w.only e (past_in nb (ray * nb + bin) l e i).0 in
          record { is = s; here_on = place_past nb ray bin e h (omega (arith, s.in_ray, s.some)) (past_in nb (ray * nb + bin) l e i).1 };
      all = λ e s. in_past nb (ray * nb + bin) l e (w.all e s.is) (past_place nb ray bin e h s.here_on);
      ordered = past_ordered nb (ray * nb + bin) l w.ordered;
    }

-- THE THEOREMS, for a point that may be asked for: the call's list is the list of the wanted stretches, and no other list is
module _ (sc : KindOfLevel) (v : ℕ) (xs : List ℕ) (nb nr ray bin : ℕ) (some : 0 < nb) (right : right_point nb nr ray bin ≡ true) where
  -- bin b of ray r is level r x Nb + b
  abbrev pub level_at : ℕ → ℕ → ℕ
  level_at r b = get_or (levels v xs) (r * nb + b) 0

  pub list_right : IsList (Wanted sc level_at nb nr ray bin) (stretches_from sc v xs nb nr (ray * nb + bin))
  list_right = listed_is sc v xs nb nr ray bin (point_bin nb nr ray bin right some)
