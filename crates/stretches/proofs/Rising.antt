-- Lists of entries whose places rise, as those that `list_from` makes do.
use Prim.Native.Nat.{ℕ, zero, suc, ◌+◌, ◌*◌, ◌≤◌, ◌<◌}
use mathlib.Core.Path.{◌≡◌, refl, ap, sym, subst, ◌∙◌}
use mathlib.Core.Bool.{Bool, true, false, cond}
use mathlib.Core.List.{List, [], ◌∷◌}
use native.Mathlib.Omega.{arith}
use lib.ListN.{drop}
use lib.Dec.{leb}
use borrow.Author.Tests.{le-leb, lt-leb, leb-true, leb-false}
use Rattle.stretches.specs.Stretch.{Entry, unbroken, list_from, from_place}

abbrev pub place_of : ℕ → Entry → ℕ
place_of nb e = e.ray * nb + e.first

-- the places rise, from lo on and below hi
unfoldable pub Rising : ℕ → ℕ → ℕ → List Entry → Type 0
Rising nb lo hi [] = Unit {0}
Rising nb lo hi (e ∷ es) = (lo ≤ place_of nb e) × (place_of nb e < hi) × Rising nb (suc (place_of nb e)) hi es

pub rising_lower : (nb lo lo' hi : ℕ) (l : List Entry) → lo' ≤ lo → Rising nb lo hi l → Rising nb lo' hi l
unfolding Rising
rising_lower nb lo lo' hi [] h r = tt
rising_lower nb lo lo' hi (e ∷ es) h r = (omega (arith, r.0), r.1, r.2)

-- those at or past q: where none is before q, all of them; where all are, none
pub past_all : (nb q hi : ℕ) (l : List Entry) → Rising nb q hi l → from_place nb q l ≡ l
unfolding Rising from_place
past_all nb q hi [] r = refl
past_all nb q hi (e ∷ es) r =
    rw (le-leb q (place_of nb e) r.0, past_all nb q hi es (rising_lower nb (suc (place_of nb e)) q hi es (omega (arith, r.0)) r.2))

pub past_none : (nb lo hi q : ℕ) (l : List Entry) → hi ≤ q → Rising nb lo hi l → from_place nb q l ≡ []
unfolding Rising from_place
past_none nb lo hi q [] h r = refl
past_none nb lo hi q (e ∷ es) h r = rw (lt-leb q (place_of nb e) (omega (arith, r.1)), past_none nb (suc (place_of nb e)) hi q es h r.2)

pub past_rising : (nb lo hi q : ℕ) (l : List Entry) → Rising nb lo hi l → Rising nb q hi (from_place nb q l)
unfolding Rising from_place
past_rising nb lo hi q [] r = tt
past_rising nb lo hi q (e ∷ es) r = go (leb q (place_of nb e)) refl (past_rising nb (suc (place_of nb e)) hi q es r.2)
  where
    go : (b : Bool) → leb q (place_of nb e) ≡ b → Rising nb q hi (from_place nb q es) → Rising nb q hi (cond b (e ∷ from_place nb q es) (from_place nb q es))
    go true h ih =
        let l : q ≤ place_of nb e = leb-true q (place_of nb e) h in
        (l, r.1, subst (Rising nb (suc (place_of nb e)) hi) (sym (past_all nb q hi es (rising_lower nb (suc (place_of nb e)) q hi es (omega arith) r.2))) r.2)
    go false h ih = ih

pub past_past : (nb q q' : ℕ) (l : List Entry) → q ≤ q' → from_place nb q' (from_place nb q l) ≡ from_place nb q' l
unfolding from_place
past_past nb q q' [] h = refl
past_past nb q q' (e ∷ es) h = go (leb q (place_of nb e)) refl (leb q' (place_of nb e)) refl (past_past nb q q' es h)
  where
    go : (b : Bool) → leb q (place_of nb e) ≡ b → (b' : Bool) → leb q' (place_of nb e) ≡ b' → from_place nb q' (from_place nb q es) ≡ from_place nb q' es
        → from_place nb q' (cond b (e ∷ from_place nb q es) (from_place nb q es)) ≡ cond b' (e ∷ from_place nb q' es) (from_place nb q' es)
    go true u true u' ih = rw (u', ih)
    go true u false u' ih = rw (u', ih)
    go false u true u' ih = absurd (omega (arith, leb-false q (place_of nb e) u, leb-true q' (place_of nb e) u'))
    go false u false u' ih = ih

pub drop_rising : (nb lo hi n : ℕ) (l : List Entry) → Rising nb lo hi l → Rising nb lo hi (drop n l)
unfolding Rising
drop_rising nb lo hi zero l r = r
drop_rising nb lo hi (suc n) [] r = tt
drop_rising nb lo hi (suc n) (e ∷ es) r = drop_rising nb lo hi n es (rising_lower nb (suc (place_of nb e)) lo hi es (omega (arith, r.0)) r.2)

-- those at or past the first that is left after n are what is left
pub past_drop : (nb lo hi n : ℕ) (l : List Entry) (e : Entry) (es : List Entry) → Rising nb lo hi l → drop n l ≡ e ∷ es → from_place nb (place_of nb e) l ≡ drop n l
unfolding Rising from_place
past_drop nb lo hi zero l e es r h =
    h' ∙ sym h
  where
    re : Rising nb lo hi (e ∷ es)
    re = subst (Rising nb lo hi) h r

    h' : from_place nb (place_of nb e) l ≡ e ∷ es
    h' = ap (from_place nb (place_of nb e)) h ∙ past_all nb (place_of nb e) hi (e ∷ es) (omega arith, re.1, re.2)
past_drop nb lo hi (suc n) [] e es r h = refl
past_drop nb lo hi (suc n) (d ∷ ds) e es r h =
    let dr : Rising nb (suc (place_of nb d)) hi (e ∷ es) = subst (Rising nb (suc (place_of nb d)) hi) h (drop_rising nb (suc (place_of nb d)) hi n ds r.2) in
    rw (lt-leb (place_of nb e) (place_of nb d) (omega (arith, dr.0))) (past_drop nb (suc (place_of nb d)) hi n ds e es r.2 h)

pub list_rising : (S : ℕ → Bool) (E : ℕ → ℕ → Entry) (nb : ℕ) → ((p n : ℕ) → place_of nb (E p n) ≡ p) → (p m : ℕ) → Rising nb p (p + m) (list_from S E p m)
unfolding Rising list_from
list_rising S E nb pl p zero = tt
list_rising S E nb pl p (suc m) = go (S p) (subst (λ (x : ℕ). Rising nb (suc p) x (list_from S E (suc p) m)) (omega arith) (list_rising S E nb pl (suc p) m))
  where
    go : (b : Bool) → Rising nb (suc p) (p + suc m) (list_from S E (suc p) m)
        → Rising nb p (p + suc m) (cond b (E p (suc (unbroken S (suc p) m)) ∷ list_from S E (suc p) m) (list_from S E (suc p) m))
    go true r = rw (pl p (suc (unbroken S (suc p) m))) (omega arith, omega arith, r)
    go false r = rising_lower nb (suc p) p (p + suc m) (list_from S E (suc p) m) (omega arith) r
