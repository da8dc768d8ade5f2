-- What a longest stretch is, and what the list of them is, said without computing: lv r b is the level of bin b of ray r.
-- proofs/Meaning.antt has the theorems: `stretches_from` is the list, and there is only one.
use Rattle.std.specs.Prelude.{ℕ, suc, ◌+◌, ◌≤◌, ◌<◌, ◌≡◌, ◌⊎◌, List, [], ◌∷◌}
use Rattle.stretches.specs.Stretch.{Entry, KindOfLevel}

-- bins of one ray, all of one kind; the bin before and the bin after, where the ray has them, are of another
pub record IsStretch (sc : KindOfLevel) (lv : ℕ → ℕ → ℕ) (nb nr : ℕ) (e : Entry) : Type 0 where
  pub in_rays : e.ray < nr
  pub some : 0 < e.len
  pub in_ray : e.first + e.len ≤ nb
  pub same : (b : ℕ) → e.first ≤ b → b < e.first + e.len → sc.kind (lv e.ray b) ≡ e.kind
  pub before : (b : ℕ) → suc b ≡ e.first → sc.kind (lv e.ray b) ≡ e.kind → ⊥
  pub after : e.first + e.len < nb → sc.kind (lv e.ray (e.first + e.len)) ≡ e.kind → ⊥

-- e is in the list
unfoldable pub In : Entry → List Entry → Type 0
In e [] = ⊥
In e (d ∷ ds) = (e ≡ d) ⊎ In e ds

-- by ray, and then by first bin
abbrev pub Before : Entry → Entry → Type 0
Before e d = (e.ray < d.ray) ⊎ ((e.ray ≡ d.ray) × (e.first < d.first))

-- each is before all that follow: so none is there twice
unfoldable pub Ordered : List Entry → Type 0
Ordered [] = Unit {0}
Ordered (e ∷ es) = ((d : Entry) → In d es → Before e d) × Ordered es

-- everything that P says, each once, in order, and nothing else
pub record IsList (P : Entry → Type 0) (l : List Entry) : Type 0 where
  pub only : (e : Entry) → In e l → P e
  pub all : (e : Entry) → P e → In e l
  pub ordered : Ordered l

-- e starts at the point (ray, bin) or past it
abbrev pub AtOrPast : ℕ → ℕ → Entry → Type 0
AtOrPast ray bin e = (ray < e.ray) ⊎ ((ray ≡ e.ray) × (bin ≤ e.first))

-- what the call lists, where there is room: the stretches that start at the point or past it
pub record Wanted (sc : KindOfLevel) (lv : ℕ → ℕ → ℕ) (nb nr ray bin : ℕ) (e : Entry) : Type 0 where
  pub is : IsStretch sc lv nb nr e
  pub here_on : AtOrPast ray bin e
