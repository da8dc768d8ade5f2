-- Where a cell stands: its place in section 7 by its number, for either width, and the number by ray and bin.
use Prim.Native.Nat.{ℕ, suc, ◌+◌, ◌*◌, ◌-◌, ◌/◌, ◌≤◌, ◌<◌}
use mathlib.Core.Path.{◌≡◌, ap}
use mathlib.Core.List.{List}
use native.Mathlib.Omega.{arith}
use native.Mathlib.Nat.{mul-le-mul, mul-le-mul_right}
use Rattle.octets.specs.Octets.{be}
use Rattle.rules.specs.Rules.{field}

module _ (s : List ℕ) (at n width : ℕ) where
  pub one_octet : width ≡ 8 → be s (at + 5 + n) 1 ≡ field s at (6 + n * (width / 8)) (width / 8)
  unfolding field
  one_octet e = rw e (ap (λ (k : ℕ). be s k 1) (here n))
    where
      here : (n : ℕ) → at + 5 + n ≡ at + (6 + n * 1) - 1
      here n = omega arith

  pub two_octets : width ≡ 16 → be s (at + 5 + 2 * n) 2 ≡ field s at (6 + n * (width / 8)) (width / 8)
  unfolding field
  two_octets e = rw e (ap (λ (k : ℕ). be s k 2) (here n))
    where
      here : (n : ℕ) → at + 5 + 2 * n ≡ at + (6 + n * 2) - 1
      here n = omega arith

pub few_cells : (ray bin nr nb : ℕ) → ray < nr → bin < nb → nr ≤ 1024 → nb ≤ 2048 → ray * nb + bin ≤ 2097152
few_cells ray bin nr nb r b nr-few nb-few =
    let row : suc ray * nb ≤ nr * nb = mul-le-mul_right nb r in
    let all : nr * nb ≤ 1024 * 2048 = mul-le-mul nr-few nb-few in
    omega arith
