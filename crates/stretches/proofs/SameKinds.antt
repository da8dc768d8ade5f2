-- Two scales that agree on every level of the data make the same list; a table of a product's kinds is such a scale, since no level is over V.
use Prim.Native.Nat.{ℕ, ◌*◌, ◌/◌, ◌%◌, ◌≤◌}
use mathlib.Core.Path.{◌≡◌, ap}
use mathlib.Core.List.{List}
use native.Mathlib.Omega.{arith}
use lib.ListN.{get_or}
use lib.IntN.{ℤ}
use Rattle.runs.specs.Run.{levels}
use Rattle.runs.proofs.Here.{levels_le}
use Rattle.values.specs.Published.{level_count}
use Rattle.values.specs.Inner.{KindsBy}
use Rattle.values.specs.declared.Product.{Product}
use Rattle.stretches.specs.Stretch.{KindOfLevel, kind_at, starts, list_from, stretches_of, from_place}
use Rattle.stretches.specs.Call.{kind_by_threshold, stretches_from}
use Rattle.stretches.specs.Inner.{kind_by_table}

-- ---- scales that agree
pub same_stretches : (sc sc' : KindOfLevel) (ls : List ℕ) (nb m : ℕ) → ((p : ℕ) → kind_at sc ls p ≡ kind_at sc' ls p) → stretches_of sc ls nb m ≡ stretches_of sc' ls nb m
same_stretches sc sc' ls nb m h = λ i. list_from (starts (λ p. h p i) nb) (λ p n. record { ray = p / nb; first = p % nb; len = n; kind = h p i }) 0 m

pub same_listed : (sc sc' : KindOfLevel) (v : ℕ) (xs : List ℕ) (nb nr q : ℕ) → ((l : ℕ) → l ≤ v → sc.kind l ≡ sc'.kind l) → stretches_from sc v xs nb nr q ≡ stretches_from sc' v xs nb nr q
unfolding stretches_from
same_listed sc sc' v xs nb nr q h = ap (from_place nb q) (same_stretches sc sc' (levels v xs) nb (nr * nb) (λ p. h (get_or (levels v xs) p 0) (levels_le v xs p)))

pub table_listed : (p : Product) (t : ℤ) (ks : List ℕ) (v : ℕ) (xs : List ℕ) (nb nr q : ℕ) → KindsBy p t ks → v ≤ level_count p
    → stretches_from (kind_by_table ks) v xs nb nr q ≡ stretches_from (kind_by_threshold p t) v xs nb nr q
table_listed p t ks v xs nb nr q h l = same_listed (kind_by_table ks) (kind_by_threshold p t) v xs nb nr q (λ x a. h x (omega arith))
