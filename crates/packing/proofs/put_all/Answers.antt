-- `put_all` meets its contract: what stands in front, and what is left to write.
use Rattle.std.proofs.Common.{ℕ, refl, sym, ap, ◌∙◌, arith, length, get_or, take, drop, ◌+◌, ◌≡◌, List, [], ◌++◌}
use Rattle.std.proofs.Math.ListN.{length-drop}
use mathlib.Core.List.{append-nil}
use lib.Seq.{take_all}
use Rattle.lent.specs.Lent.{front, placed}
use Rattle.lent.proofs.Putting.{next_drop, next_fits, run_put, length_fronted}
use Rattle.packing.specs.Write.{code, on_from, written}
use Rattle.packing.proofs.Digits.{on_same, on_other, on_end, written_cons, written_empty}
use Rattle.packing.proofs.put_all.Goals as goal
use Rattle.packing.proofs.put_all.Goals.{then-y-x, else-y-x}

pub returns-in_default : goal.returns-in_default
returns-in_default c =
    let none = sym (written_empty c.args.v c.args.levels.now c.in_default.ensures.cases) in record { value = ap length none; out_after = ap (λ (l : List ℕ). front l c.args.out.now) none }

pub loop-y-init : goal.loop-y-init
loop-y-init c =
    let start = ap (λ (s : List ℕ). written c.args.v s) c.in-Some.ensures.cases.0 ∙ written_cons c.args.v c.in-Some.field-0-0.now c.in-Some.rest.now in
    (omega arith, omega arith, start, refl)

pub put_run-at-requires : goal.put_run-at-requires
put_run-at-requires c =
    let W = written c.args.v c.args.levels.now in
    let t = c.loop-y.invariant in
    let size : length c.loop-y.out ≡ length c.args.out.now = ap length t.3 ∙ length_fronted W c.args.out.now c.loop-y.at t.1 c.requires.2 in
    let next = t.2 ∙ on_other c.args.v c.loop-y.x c.loop-y.k c.in-Some.rest.now c.loop-y.y-index c.loop-y-test.true c.if-y-x.false in
    (omega arith, omega (arith, c.in-Some.ensures.cases.1), omega (arith, size, next_fits W c.loop-y.at (code c.args.v c.loop-y.x c.loop-y.k) _ next t.1))

pub loop-y-preserved : goal.loop-y-preserved
loop-y-preserved c =
    let v = c.args.v in
    let W = written v c.args.levels.now in
    let rest = c.in-Some.rest.now in
    let i = c.loop-y.y-index in
    let x = c.loop-y.x in
    let k = c.loop-y.k in
    let y = get_or rest i 0 in
    let left = drop (i + 1) rest in
    let p = code v x k in
    let t = c.loop-y.invariant in
    elim c.if-y-x.branch [
      | then-y-x w ↦
          let now : on_from v x (k + 1) left ≡ on_from v c.if-y-x.x c.if-y-x.k left = cc (w.x-is, w.k-is) in (
            omega arith,
            omega (arith, w.at-is, t.1),
            ap (λ (n : ℕ). drop n W) w.at-is ∙ t.2 ∙ on_same v x k rest i c.loop-y-test.true w.if-y-x.true ∙ now,
            w.out-is ∙ t.3 ∙ ap (λ (n : ℕ). front (take n W) c.args.out.now) (sym w.at-is),
          )
      | else-y-x w ↦
          let put = w.put_run-at.ensures in
          let now : on_from v y 0 left ≡ on_from v c.if-y-x.x c.if-y-x.k left = cc (w.x-is, w.k-is) in
          let next = t.2 ∙ on_other v x k rest i c.loop-y-test.true w.if-y-x.false in
          let at = w.at-is ∙ put.value in (
            omega arith,
            omega (arith, at, next_fits W c.loop-y.at p _ next t.1),
            ap (λ (n : ℕ). drop n W) at ∙ next_drop W c.loop-y.at p _ next t.1 ∙ now,
            w.out-is
                ∙ put.out_after
                ∙ ap (λ (d : List ℕ). placed d c.loop-y.at p) t.3
                ∙ run_put W c.args.out.now c.loop-y.at p _ next t.1
                ∙ ap (λ (n : ℕ). front (take n W) c.args.out.now) (sym at),
          )
    ]

pub put_run-requires : goal.put_run-requires
put_run-requires c =
    let W = written c.args.v c.args.levels.now in
    let t = c.loop-y.invariant in
    let p = code c.args.v c.loop-y.x c.loop-y.k in
    let size : length c.loop-y.out ≡ length c.args.out.now = ap length t.3 ∙ length_fronted W c.args.out.now c.loop-y.at t.1 c.requires.2 in
    let last : drop c.loop-y.at W ≡ p ++ [] = t.2 ∙ on_end c.args.v c.loop-y.x c.loop-y.k c.in-Some.rest.now c.loop-y.y-index c.loop-y-test.false ∙ sym (append-nil p) in
    (omega arith, omega (arith, c.in-Some.ensures.cases.1), omega (arith, size, next_fits W c.loop-y.at p [] last t.1))

pub returns : goal.returns
returns c =
    let W = written c.args.v c.args.levels.now in
    let t = c.loop-y.invariant in
    let p = code c.args.v c.loop-y.x c.loop-y.k in
    let last : drop c.loop-y.at W ≡ p ++ [] = t.2 ∙ on_end c.args.v c.loop-y.x c.loop-y.k c.in-Some.rest.now c.loop-y.y-index c.loop-y-test.false ∙ sym (append-nil p) in
    let none = simp length-drop at (ap length (next_drop W c.loop-y.at p [] last t.1)) in
    let size = next_fits W c.loop-y.at p [] last t.1 in record {
      value = omega (arith, c.put_run.ensures.value);
      out_after = c.put_run.ensures.out_after
          ∙ ap (λ (d : List ℕ). placed d c.loop-y.at p) t.3
          ∙ run_put W c.args.out.now c.loop-y.at p [] last t.1
          ∙ ap (λ (q : List ℕ). front q c.args.out.now) (take_all (c.loop-y.at + length p) W (omega arith));
    }
