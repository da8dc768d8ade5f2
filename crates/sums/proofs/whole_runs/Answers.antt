-- `whole_runs` meets its contract: going back from the block's end each digit leaves the row and the sum; the first octet is a level at the latest.
use Prim.Native.Nat.{ℕ, ◌+◌, ◌-◌, ◌≤◌, ◌<◌}
use mathlib.Core.Path.{◌≡◌, ap, ◌∙◌}
use mathlib.Core.List.{List}
use native.Mathlib.Omega.{arith}
use lib.ListN.{get_or, set, length-set}
use lib.Seq.{get_or-set_same}
use borrow.Author.Tests.{le-leb, lt-leb}
use Rattle.octets.proofs.Orders.{by_order}
use Rattle.sums.specs.Inner.{total, alone}
use Rattle.sums.proofs.Totals.{total_more}
use borrow.Author.Rules.{read_below, read_above}
use Rattle.sums.proofs.whole_runs.Goals as goal

-- a digit at a place of a row laid so: the sum has it
here : (octets row : List ℕ) (v e rest : ℕ) → rest ≡ total (λ i. alone v (get_or octets i 0)) (e + 1) → v < get_or octets e 0 → get_or row e 0 ≡ get_or octets e 0 - v - 1
    → rest ≡ total (λ i. alone v (get_or octets i 0)) e + get_or row e 0
here octets row v e rest sum high laid =
    let f : ℕ → ℕ = λ i. alone v (get_or octets i 0) in
    let one : f e ≡ get_or octets e 0 - v - 1 = simp (lt-leb (get_or octets e 0) v high) in
    omega (arith, sum, total_more f e, one, laid)

-- a digit is not the first octet, which is a level
later : (octets : List ℕ) (v e : ℕ) → get_or octets 0 0 ≤ v → v < get_or octets e 0 → 1 ≤ e
later octets v e low high = by_order 1 e (λ h. h) (λ h. let first : e ≡ 0 = omega arith in absurd (omega (arith, ap (λ (k : ℕ). get_or octets k 0) first)))

-- a level at a place: the sum has a run's first bin
opens : (octets : List ℕ) (v e rest : ℕ) → rest ≡ total (λ i. alone v (get_or octets i 0)) (e + 1) → get_or octets e 0 ≤ v
    → rest ≡ total (λ i. alone v (get_or octets i 0)) e + 1
opens octets v e rest sum low =
    let f : ℕ → ℕ = λ i. alone v (get_or octets i 0) in
    let one : f e ≡ 1 = simp (le-leb (get_or octets e 0) v low) in
    omega (arith, sum, total_more f e, one)

pub overflow_sub-rest : goal.overflow_sub-rest
overflow_sub-rest c = omega (arith, here c.args.octets.now c.loop-e.row c.args.v c.loop-e.e c.loop-e.rest c.loop-e.invariant.2 c.loop-e-test.true (c.loop-e.invariant.3.0 c.loop-e.e (omega arith)))

pub loop-e-preserved : goal.loop-e-preserved
loop-e-preserved c = let back : c.loop-e.e - 1 + 1 ≡ c.loop-e.e = omega (arith, later c.args.octets.now c.args.v c.loop-e.e c.requires.2 c.loop-e-test.true) in (
  omega arith,
  simp length-set c.loop-e.invariant.1,
  omega (arith, here c.args.octets.now c.loop-e.row c.args.v c.loop-e.e c.loop-e.rest c.loop-e.invariant.2 c.loop-e-test.true (c.loop-e.invariant.3.0 c.loop-e.e (omega arith)), ap (λ (k : ℕ). total (λ i. alone c.args.v (get_or c.args.octets.now i 0)) k) back),
  (
    (λ j h. read_below ℕ c.loop-e.row c.loop-e.e j 0 0 _ (omega (arith, back)) (c.loop-e.invariant.3.0 j (omega (arith, back)))),
    λ j h g.
        by_order j c.loop-e.e
        (λ near. let same : j ≡ c.loop-e.e = omega (arith, back) in ap (λ (k : ℕ). get_or (set c.loop-e.row c.loop-e.e 0) k 0) same ∙ get_or-set_same c.loop-e.row c.loop-e.e 0 0 (omega arith))
        (λ far. read_above ℕ c.loop-e.row c.loop-e.e j 0 0 _ far (c.loop-e.invariant.3.1 j (omega arith) g)),
  ),
)

pub overflow_sub-result : goal.overflow_sub-result
overflow_sub-result c = omega (arith, opens c.args.octets.now c.args.v c.loop-e.e c.loop-e.rest c.loop-e.invariant.2 c.loop-e-test.false)

pub returns : goal.returns
returns c = record {
  octets_bound = (c.loop-e.invariant.0, c.loop-e-test.false, omega (arith, opens c.args.octets.now c.args.v c.loop-e.e c.loop-e.rest c.loop-e.invariant.2 c.loop-e-test.false));
  laid = (
    (λ j h. c.loop-e.invariant.3.0 j (omega arith)),
    λ j h g.
        by_order j c.loop-e.e
        (λ near. let same : j ≡ c.loop-e.e = omega arith in ap (λ (k : ℕ). get_or c.loop-e.row k 0) same ∙ c.loop-e.invariant.3.0 c.loop-e.e (omega arith) ∙ omega (arith, c.loop-e-test.false))
        (λ far. c.loop-e.invariant.3.1 j (omega arith) g),
  );
}
