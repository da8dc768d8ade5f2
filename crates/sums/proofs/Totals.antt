-- Sums of so many terms: of terms that are the same, that add up, that are none.
use Prim.Native.Nat.{ℕ, zero, suc, ◌+◌, ◌*◌, ◌≤◌, ◌<◌}
use mathlib.Core.Path.{◌≡◌, refl, sym, ap, ◌∙◌}
use native.Mathlib.Nat.{zero-mul}
use native.Mathlib.Numerals.{add-one}
use native.Mathlib.Omega.{arith}
use Rattle.sums.specs.Inner.{total}

pub total_none : (f : ℕ → ℕ) → total f 0 ≡ 0
unfolding total
total_none f = refl

pub total_suc : (f : ℕ → ℕ) (m : ℕ) → total f (suc m) ≡ total f m + f m
unfolding total
total_suc f m = refl

pub total_more : (f : ℕ → ℕ) (m : ℕ) → total f (m + 1) ≡ total f m + f m
total_more f m = ap (λ (k : ℕ). total f k) (add-one m) ∙ total_suc f m

pub total_same : (f g : ℕ → ℕ) (m : ℕ) → ((j : ℕ) → j < m → f j ≡ g j) → total f m ≡ total g m
total_same f g zero same = total_none f ∙ sym (total_none g)
total_same f g (suc m) same =
    omega (arith, total_suc f m, total_suc g m, total_same f g m (λ j h. same j (omega arith)), same m (omega arith))

pub total_both : (f g : ℕ → ℕ) (m : ℕ) → total (λ j. f j + g j) m ≡ total f m + total g m
total_both f g zero = omega (arith, total_none f, total_none g, total_none (λ j. f j + g j))
total_both f g (suc m) = omega (arith, total_suc f m, total_suc g m, total_suc (λ j. f j + g j) m, total_both f g m)

-- from e on there is nothing
pub total_ends : (f : ℕ → ℕ) (e k : ℕ) → ((j : ℕ) → e ≤ j → j < e + k → f j ≡ 0) → total f (e + k) ≡ total f e
total_ends f e zero none = ap (λ (k : ℕ). total f k) (omega arith)
total_ends f e (suc k) none =
    let next : e + suc k ≡ suc (e + k) = omega arith in
    ap (λ (k : ℕ). total f k) next
    ∙ omega (arith, total_suc f (e + k), none (e + k) (omega arith) (omega arith), total_ends f e k (λ j h g. none j h (omega arith)))

-- a sum of nothing, whatever its terms are multiplied by
pub total_nothing : (f w : ℕ → ℕ) (m : ℕ) → total f m ≡ 0 → total (λ j. f j * w j) m ≡ 0
total_nothing f w zero e = total_none (λ j. f j * w j)
total_nothing f w (suc m) e =
    let last : f m ≡ 0 = omega (arith, total_suc f m) in
    let before : total f m ≡ 0 = omega (arith, total_suc f m) in
    omega (arith, total_suc (λ j. f j * w j) m, total_nothing f w m before, ap (λ (x : ℕ). x * w m) last, zero-mul (w m))

-- each term is at most 255
pub total_fits : (f : ℕ → ℕ) (m : ℕ) → ((j : ℕ) → j < m → f j ≤ 255) → total f m ≤ 255 * m
total_fits f zero low = omega (arith, total_none f)
total_fits f (suc m) low = omega (arith, total_suc f m, total_fits f m (λ j h. low j (omega arith)), low m (omega arith))
