-- At a section 7 the bins are few and V is at most 252, in every cut: the sections 3 and 5 last seen have passed, and their checks hold both.
use Prim.Native.Nat.{ℕ, ◌≤◌}
use mathlib.Core.Path.{◌≡◌, refl, subst}
use mathlib.Core.List.{List}
use native.Mathlib.Omega.{arith}
use borrow.Author.Tests.{ne_eqb}
use Rattle.rules.specs.Fields.{points_at}
use Rattle.sections.specs.Checks.{FormatChecks}
use Rattle.sections.specs.declared.Context.{Context}
use Rattle.sections.specs.History.{Seen, previous, last_seen}
use Rattle.sections.specs.Refused.{AllHold, Passed}
use Rattle.sections.proofs.Held.{held}
use Rattle.base_format.specs.Fields.{greatest_at}
use Rattle.base_format.specs.Checks.{base_checks, any_data_checks}
use Rattle.base_format.specs.Ready.{few_points, low_v}

-- checks that differ from the base's in section 7 alone
abbrev pub LikeBase : FormatChecks → Type 0
LikeBase own = (s : List ℕ) (x : Context) (at n : ℕ) → (n ≡ 7 → ⊥) → own s x at n ≡ base_checks s x at n

pub base_like : LikeBase base_checks
base_like s x at n other = refl

pub any_like : LikeBase any_data_checks
unfolding any_data_checks
any_like s x at n other = rw (ne_eqb n 7 other)

module _ (own : FormatChecks) (like : LikeBase own) (s : List ℕ) {end : ℕ} {seen : List Seen} {at : ℕ} (p : Passed own s end seen at) where
  pub held_few : 3 ≤ previous seen → points_at s (last_seen 3 seen) ≤ 2097152
  held_few = held own s end 3 (omega arith) (omega arith) (λ k. points_at s k ≤ 2097152) (λ x k h. few_points s x k (subst AllHold (like s x k 3 (λ z. omega arith)) h)) p

  pub held_low : 5 ≤ previous seen → greatest_at s (last_seen 5 seen) ≤ 252
  held_low = held own s end 5 (omega arith) (omega arith) (λ k. greatest_at s k ≤ 252) (λ x k h. low_v s x k (subst AllHold (like s x k 5 (λ z. omega arith)) h)) p
