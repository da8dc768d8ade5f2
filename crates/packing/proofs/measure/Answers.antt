-- `measure` meets its contract: what is counted, and the octets that the run in hand and the levels to come take, make all.
use Rattle.std.proofs.Common.{ℕ, sym, ap, arith, length, get_or, drop, ◌+◌, ◌-◌, ◌≡◌, List}
use Rattle.std.proofs.Math.ListN.{length-append}
use Rattle.packing.specs.Write.{code, on_from, written}
use Rattle.packing.proofs.Digits.{digits_short, code_length, on_same, on_other, on_end, written_cons, written_empty}
use Rattle.packing.proofs.measure.Goals as goal
use Rattle.packing.proofs.measure.Goals.{then-y-x, else-y-x}

pub returns-in_default : goal.returns-in_default
returns-in_default c = sym (ap length (written_empty c.args.v c.args.levels.now c.in_default.ensures.cases))

pub loop-y-init : goal.loop-y-init
loop-y-init c =
    let start = ap (λ (s : List ℕ). length (written c.args.v s)) c.in-Some.ensures.cases.0 in
    (omega arith, omega (arith, start, ap length (written_cons c.args.v c.in-Some.field-0-0.now c.in-Some.rest.now)))

pub overflow_add-total : goal.overflow_add-total
overflow_add-total c = record { fits = omega (arith, c.in-Some.ensures.cases.1, digits_short (255 - c.args.v) c.loop-y.k) }

pub overflow_add-total-else-y-x : goal.overflow_add-total-else-y-x
overflow_add-total-else-y-x c = record { fits = omega (arith, c.in-Some.ensures.cases.1, digits_short (255 - c.args.v) c.loop-y.k) }

pub loop-y-preserved : goal.loop-y-preserved
loop-y-preserved c =
    let v = c.args.v in
    let rest = c.in-Some.rest.now in
    let i = c.loop-y.y-index in
    let x = c.loop-y.x in
    let k = c.loop-y.k in
    let y = get_or rest i 0 in
    let left = drop (i + 1) rest in
    elim c.if-y-x.branch [
      | then-y-x w ↦
          let now : length (on_from v c.if-y-x.x c.if-y-x.k left) ≡ length (on_from v x (k + 1) left) = cc (w.x-is, w.k-is) in
          (omega arith, omega (arith, now, c.loop-y.invariant.1, ap length (on_same v x k rest i c.loop-y-test.true w.if-y-x.true)))
      | else-y-x w ↦
          let now : length (on_from v c.if-y-x.x c.if-y-x.k left) ≡ length (on_from v y 0 left) = cc (w.x-is, w.k-is) in
          let short = digits_short (255 - v) k in
          (omega (arith, short, w.digit_count.ensures), omega (arith, now, short, c.loop-y.invariant.1, w.digit_count.ensures, ap length (on_other v x k rest i c.loop-y-test.true w.if-y-x.false), length-append (code v x k) (on_from v y 0 left), code_length v x k))
    ]

pub overflow_add-result-2 : goal.overflow_add-result-2
overflow_add-result-2 c = record { fits = omega (arith, c.in-Some.ensures.cases.1, digits_short (255 - c.args.v) c.loop-y.k) }

pub returns : goal.returns
returns c =
    omega (arith, c.loop-y.invariant.1, ap length (on_end c.args.v c.loop-y.x c.loop-y.k c.in-Some.rest.now c.loop-y.y-index c.loop-y-test.false), code_length c.args.v c.loop-y.x c.loop-y.k)
