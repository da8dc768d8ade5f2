-- The cuts of a file, one by one: each is good, there are at most 64, and each next one follows from the one before.
use Prim.Native.Nat.{ℕ, suc, ◌≤◌, ◌<◌}
use mathlib.Core.Path.{◌≡◌, refl, ap}
use mathlib.Core.List.{List, []}
use native.Mathlib.Omega.{arith}
use lib.ListN.{length, get_or}
use Rattle.sections.specs.Verdict.{Verdict, accepted, refused, default_cut}
use Rattle.base_format.specs.Verdict.{verdict}
use Rattle.base_format.specs.Accepted.{Accepted}
use Rattle.base_format.specs.Good.{GoodCut}
use Rattle.sections.specs.declared.Cut.{Cut}
use Rattle.base_format.proofs.Exact.{exact}
use Rattle.base_format.proofs.GoodCuts.{good_accepted}
use Rattle.cuts.specs.After.{cut_after}
use Rattle.cuts.proofs.After.{next_is}
use Rattle.listing.specs.Progress.{cuts_by, cuts_in}

-- what holds of the cuts of every accepted file holds of a file's cuts, where it has any
of_cuts : (s : List ℕ) (P : List Cut → Type 0) → ((cs : List Cut) → Accepted s cs → P cs) → P [] → P (cuts_in s)
of_cuts s P some none = go (verdict s) refl
  where
    go : (v : Verdict) → verdict s ≡ v → P (cuts_by v)
    go (accepted cs) h = some cs (exact.accepted_only s cs h)
    go (refused r) h = none

pub good_in : (s : List ℕ) (i : ℕ) → i < length (cuts_in s) → GoodCut s (get_or (cuts_in s) i default_cut)
good_in s i = of_cuts s (λ cs. i < length cs → GoodCut s (get_or cs i default_cut)) (λ cs a lt. good_accepted s cs a i lt) (λ lt. absurd (omega arith))

pub few_in : (s : List ℕ) → length (cuts_in s) ≤ 64
few_in s = of_cuts s (λ cs. length cs ≤ 64) (λ cs a. a.past.few) (omega arith)

pub next_in : (s : List ℕ) (i : ℕ) → suc i < length (cuts_in s) → get_or (cuts_in s) (suc i) default_cut ≡ cut_after s (get_or (cuts_in s) i default_cut)
next_in s i =
    of_cuts s (λ cs. suc i < length cs → get_or cs (suc i) default_cut ≡ cut_after s (get_or cs i default_cut)) (λ cs a lt. next_is s cs a i lt) (λ lt. absurd (omega arith))

-- an accepted file has a cut
pub some_cut : (s : List ℕ) (cs : List Cut) → verdict s ≡ accepted cs → 0 < length cs
some_cut s cs h = let p = (exact.accepted_only s cs h).past in omega (arith, ap length p.are)
