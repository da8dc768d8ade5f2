-- `put_run` meets its contract: what of the run is written, and what of its digits is left.
use Prim.Native.Nat.{ℕ, ◌+◌, ◌-◌, ◌%◌, ◌≤◌}
use mathlib.Core.Path.{◌≡◌, sym, ap, ◌∙◌}
use mathlib.Core.List.{List}
use native.Mathlib.Omega.{arith}
use lib.ListN.{length, take, drop, set, length-set, length-drop}
use Rattle.packing.specs.Write.{code, digits_of}
use Rattle.lent.specs.Lent.{placed}
use Rattle.packing.proofs.Digits.{octets_of, code_is, octets_none, octets_more, code_length}
use Rattle.lent.proofs.Putting.{one_fits, one_left, one_put}
use Rattle.lent.proofs.Lent.{length_placed, placed_set, first_put}
use lib.Seq.{length-take-le, take_all}
use Rattle.packing.proofs.put_run.Goals as goal

-- what is written so far leaves the size as it was
size : (v x k at j : ℕ) (out was : List ℕ) → out ≡ placed (set was at x) at (take (j - at) (code v x k)) → at ≤ j → j ≤ at + length (code v x k) → at + length (code v x k) ≤ length was → length out ≡ length was
size v x k at j out was is after before room =
    ap length is
    ∙ length_placed (set was at x) at (take (j - at) (code v x k)) (omega (arith, length-take-le (j - at) (code v x k) (omega arith), length-set was at x))
    ∙ length-set was at x

pub bounds-out-at : goal.bounds-out-at
bounds-out-at c = omega (arith, c.requires.2, code_length c.args.v c.args.x c.args.k)

pub loop-m-init : goal.loop-m-init
loop-m-init c = let W = code c.args.v c.args.x c.args.k in
    let one : c.args.at + 1 - c.args.at ≡ 1 = omega arith in (
      omega arith,
      omega (arith, code_length c.args.v c.args.x c.args.k),
      first_put c.args.out.now c.args.at c.args.x (omega (arith, c.requires.2, code_length c.args.v c.args.x c.args.k)) ∙ ap (λ (l : List ℕ). placed (set c.args.out.now c.args.at c.args.x) c.args.at l) (sym (ap (λ (n : ℕ). take n W) one ∙ ap (λ (l : List ℕ). take 1 l) (code_is c.args.v c.args.x c.args.k))),
      ap (λ (n : ℕ). drop n W) one ∙ ap (λ (l : List ℕ). drop 1 l) (code_is c.args.v c.args.x c.args.k),
    )

pub bounds-out-j : goal.bounds-out-j
bounds-out-j c =
    let same = size _ _ _ _ _ _ _ c.loop-m.invariant.2 c.loop-m.invariant.0 c.loop-m.invariant.1 (omega (arith, c.requires.2)) in
    let next = c.loop-m.invariant.3 ∙ octets_more c.args.v c.loop-m.m (omega arith) (omega arith) in
    omega (arith, same, one_fits (set c.args.out.now c.args.at c.args.x) (code c.args.v c.args.x c.args.k) c.args.at c.loop-m.j _ _ (omega arith) next (omega arith) (omega (arith, length-set c.args.out.now c.args.at c.args.x)))

pub loop-m-preserved : goal.loop-m-preserved
loop-m-preserved c =
    let next = c.loop-m.invariant.3 ∙ octets_more c.args.v c.loop-m.m (omega arith) (omega arith) in (
      omega arith,
      one_fits (set c.args.out.now c.args.at c.args.x) (code c.args.v c.args.x c.args.k) c.args.at c.loop-m.j _ _ (omega arith) next (omega arith) (omega (arith, length-set c.args.out.now c.args.at c.args.x)),
      ap (λ (d : List ℕ). set d c.loop-m.j (c.args.v + 1 + c.loop-m.m % (255 - c.args.v))) c.loop-m.invariant.2 ∙ one_put (set c.args.out.now c.args.at c.args.x) (code c.args.v c.args.x c.args.k) c.args.at c.loop-m.j _ _ (omega arith) next (omega arith) (omega (arith, length-set c.args.out.now c.args.at c.args.x)),
      one_left (set c.args.out.now c.args.at c.args.x) (code c.args.v c.args.x c.args.k) c.args.at c.loop-m.j _ _ (omega arith) next (omega arith) (omega (arith, length-set c.args.out.now c.args.at c.args.x)),
    )

pub returns : goal.returns
returns c = let W = code c.args.v c.args.x c.args.k in
    let none = c.loop-m.invariant.3 ∙ ap (λ (m : ℕ). octets_of c.args.v (digits_of (255 - c.args.v) m)) c.loop-m-test.false ∙ octets_none c.args.v in
    let all = simp length-drop at (ap length none) in record {
      value = omega arith;
      out_after = c.loop-m.invariant.2
          ∙ ap (λ (p : List ℕ). placed (set c.args.out.now c.args.at c.args.x) c.args.at p) (take_all (c.loop-m.j - c.args.at) W (omega arith))
          ∙ placed_set c.args.out.now c.args.at c.args.x W (omega (arith, code_length c.args.v c.args.x c.args.k));
    }
