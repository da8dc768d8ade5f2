-- Every section 4 of a file has the parameter and the site of the first, so that any of them may be the first.
use Prim.Native.Nat.{ℕ}
use mathlib.Core.Path.{◌≡◌, sym, subst}
use mathlib.Core.List.{List}
use mathlib.Core.Bool.{true}
use native.Mathlib.Omega.{arith}
use Rattle.rules.specs.Rules.{is, meets_all}
use Rattle.rules.specs.Fields.{parameter_at}
use Rattle.rules.proofs.Bounds.{nth_rule, is_exactly}
use Rattle.dual_format.specs.Rules.{rules4}
use Rattle.dual_format.specs.Fields.{site_at}
use Rattle.dual_format.specs.Accepted.{Section4}

pub as_first : (first s3 a : List ℕ) → Section4 first s3 a → (parameter_at a 0 ≡ parameter_at first 0) × (site_at a 0 ≡ site_at first 0)
unfolding rules4 parameter_at site_at
as_first first s3 a k =
    let r = rules4 (parameter_at first 0) (site_at first 0) in
    (is_exactly a 0 11 1 _ (nth_rule a 0 r (is 0 0 0) k.rules 9 (omega arith)), is_exactly a 0 28 2 _ (nth_rule a 0 r (is 0 0 0) k.rules 10 (omega arith)))

pub regular : (first s3 a s3' b : List ℕ) → Section4 first s3 a → Section4 first s3' b → Section4 a s3' b
regular first s3 a s3' b ka kb =
    let e = as_first first s3 a ka in
    record { long = kb.long; rules = subst (λ q. meets_all b 0 q ≡ true) (λ i. rules4 (sym e.0 i) (sym e.1 i)) kb.rules }
