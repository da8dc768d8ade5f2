-- Number by number, the code says what the definition lists.
use Prim.Native.Nat.{ℕ, zero, suc, ◌+◌, ◌≤◌, ◌<◌}
use mathlib.Core.Path.{◌≡◌, refl}
use mathlib.Core.Bool.{false, not, ◌&&◌, or-false}
use native.Mathlib.Omega.{arith}
use lib.Dec.{eqb}
use borrow.Author.Tests.{ne_eqb}
use Rattle.sections.specs.Checks.{follows}
use Rattle.sections.proofs.may_follow.Goals as goal

past_seven : (p n : ℕ) → 7 < p → false ≡ follows p n
unfolding follows
past_seven p n h =
    simp (ne_eqb p 0 (λ e. omega arith), ne_eqb p 1 (λ e. omega arith), ne_eqb p 3 (λ e. omega arith), ne_eqb p 4 (λ e. omega arith), ne_eqb p 5 (λ e. omega arith), ne_eqb p 6 (λ e. omega arith), ne_eqb p 7 (λ e. omega arith))

other : (p n : ℕ) → (p ≡ 7 → ⊥) → (p ≡ 1 → ⊥) → p ≤ 7 → not (eqb p 2) && eqb n (p + 1) ≡ follows p n
unfolding follows
other zero n h g l = simp or-false
other (suc zero) n h g l = absurd (g refl)
other (suc (suc zero)) n h g l = refl
other (suc (suc (suc zero))) n h g l = simp or-false
other (suc (suc (suc (suc zero)))) n h g l = simp or-false
other (suc (suc (suc (suc (suc zero))))) n h g l = simp or-false
other (suc (suc (suc (suc (suc (suc zero)))))) n h g l = simp or-false
other (suc (suc (suc (suc (suc (suc (suc p))))))) n h g l = absurd (h (omega arith))

pub returns-then-p-eq7 : goal.returns-then-p-eq7
unfolding follows
returns-then-p-eq7 c = rw c.if-p-eq7.true

pub returns-then-p-eq1 : goal.returns-then-p-eq1
unfolding follows
returns-then-p-eq1 c = rw c.if-p-eq1.true (simp or-false)

pub returns-then-p-gt7 : goal.returns-then-p-gt7
returns-then-p-gt7 c = past_seven c.args.p c.args.n c.if-p-gt7.true

pub returns : goal.returns
returns c = other c.args.p c.args.n c.if-p-eq7.false c.if-p-eq1.false c.if-p-gt7.false
