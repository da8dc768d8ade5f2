-- A point that may be asked for: inside the grid, or (Nr, 0).
use Prim.Native.Nat.{ℕ, ◌+◌, ◌*◌, ◌≤◌, ◌<◌}
use mathlib.Core.Path.{◌≡◌, refl, sym}
use mathlib.Core.Logic.{◌⊎◌, inl, inr, ⊎_elim}
use mathlib.Core.Bool.{Bool, true, false, true≢false, ◌&&◌, ◌||◌}
use native.Mathlib.Nat.{mul-le-mul}
use native.Mathlib.Omega.{arith}
use lib.Dec.{ltb, eqb}
use borrow.Author.Tests.{ltb-true, eqb-true}
use Rattle.stretches.specs.Call.{right_point}

module _ (nb nr ray bin : ℕ) (right : right_point nb nr ray bin ≡ true) where
  pub point_cases : ((ray < nr) × (bin < nb)) ⊎ ((ray ≡ nr) × (bin ≡ 0))
  unfolding right_point
  point_cases = go (ltb ray nr) refl (ltb bin nb) refl (eqb ray nr) refl (eqb bin 0) refl right
    where
      go : (a : Bool) → ltb ray nr ≡ a → (b : Bool) → ltb bin nb ≡ b → (c : Bool) → eqb ray nr ≡ c → (d : Bool) → eqb bin 0 ≡ d → (a && b) || (c && d) ≡ true
          → ((ray < nr) × (bin < nb)) ⊎ ((ray ≡ nr) × (bin ≡ 0))
      go true ea true eb c ec d ed k = inl (ltb-true ray nr ea, ltb-true bin nb eb)
      go true ea false eb true ec true ed k = inr (eqb-true ray nr ec, eqb-true bin 0 ed)
      go true ea false eb true ec false ed k = absurd (true≢false (sym k))
      go true ea false eb false ec d ed k = absurd (true≢false (sym k))
      go false ea b eb true ec true ed k = inr (eqb-true ray nr ec, eqb-true bin 0 ed)
      go false ea b eb true ec false ed k = absurd (true≢false (sym k))
      go false ea b eb false ec d ed k = absurd (true≢false (sym k))

  pub point_bin : 0 < nb → bin < nb
  point_bin h = ⊎_elim (λ p. p.1) (λ p. omega (arith, p.1)) point_cases

  pub point_ray : ray ≤ nr
  point_ray = ⊎_elim (λ p. omega (arith, p.0)) (λ p. omega (arith, p.0)) point_cases

  -- the grid is small
  pub point_small : 0 < nb → nb ≤ 2048 → nr ≤ 1024 → ray * nb + bin ≤ 2099200
  point_small h lb lr = omega (arith, mul-le-mul {n₁ = ray} {m₁ = nb} {n₂ = 1024} {m₂ = 2048} (omega (arith, point_ray)) lb, point_bin h)
