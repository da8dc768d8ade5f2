-- `readings_from` meets its contract: the runs read so far, from a on, have their marks and numbers; as long as bins are wanted, reading stands at the place in
-- hand.
use Prim.Native.Nat.{ℕ, ◌+◌, ◌-◌, ◌≤◌}
use mathlib.Core.Path.{◌≡◌, sym, ap, ◌∙◌}
use mathlib.Core.List.{List}
use native.Mathlib.Omega.{arith}
use lib.ListN.{length, get_or, take, drop, replicate}
use Rattle.lent.specs.Lent.{placed, between, updated}
use Rattle.lent.proofs.Lent.{between_more, length_between}
use Rattle.lent.proofs.Updated.{updated_none, updated_length}
use Rattle.runs.specs.Run.{levels, run_len}
use Rattle.runs.proofs.Here.{stands_first, here_low, here_run}
use Rattle.runs.proofs.Upto.{upto_told, upto_all}
use Rattle.values.specs.Ray.{mark_at, held_at, marks_of, values_of}
use Rattle.values.specs.Reading.{reading_of, mark_of}
use Rattle.values.specs.Inner.{number_of, numbered_to}
use Rattle.values.proofs.Passed.{base_low}
use Rattle.values.proofs.Ray.{marks_run, values_run}
use Rattle.values.proofs.readings_from.Goals as goal

-- what was read and what is read now, from a on
joined : (a bins to : ℕ) → bins ≤ to → (bins - a) + ((to - a) - (bins - a)) ≡ to - a
joined a bins to h = omega arith

within : (a to b n : ℕ) → n ≡ to - a → to ≤ b → n ≤ b - a
within a to b n e h = omega arith

pub loop-run-init : goal.loop-run-init
loop-run-init c = let L = levels c.args.v c.args.octets.now in
    let none : 0 - c.args.a ≡ 0 = omega arith in
    let bare : between c.args.a 0 L ≡ take 0 (drop c.args.a L) = ap (λ (n : ℕ). take n (drop c.args.a L)) none in (
      record { few = omega arith; within = omega arith; stands = λ _. stands_first c.args.v c.args.octets.now c.requires.opened },
      sym (ap (λ (l : List ℕ). updated (mark_at c.args.product) l c.args.marks.now) bare ∙ updated_none (mark_at c.args.product) (drop c.args.a L) c.args.marks.now),
      sym (ap (λ (l : List ℕ). updated (held_at c.args.product) l c.args.values.now) bare ∙ updated_none (held_at c.args.product) (drop c.args.a L) c.args.values.now),
    )

pub run_upto-requires : goal.run_upto-requires
run_upto-requires c = (base_low c.args.product c.args.v c.requires.low, omega (arith, c.requires.near))

pub reading_of-reading-requires : goal.reading_of-reading-requires
reading_of-reading-requires c =
    let run = upto_told _ _ _ _ _ c.loop-run.invariant.0 _ (sym c.in-Some.is ∙ c.run_upto.ensures) in
    omega (arith, c.requires.low, run.cut.is, here_low c.args.v c.args.octets.now c.loop-run.at c.loop-run.bins run.stands run.more)

pub overflow_add-to : goal.overflow_add-to
overflow_add-to c =
    let run = upto_told _ _ _ _ _ c.loop-run.invariant.0 _ (sym c.in-Some.is ∙ c.run_upto.ensures) in
    record { fits = omega (arith, run.on.few, c.requires.near) }

pub put_reading-requires : goal.put_reading-requires
put_reading-requires c =
    let size-marks : length c.loop-run.marks ≡ length c.args.marks.now = ap length c.loop-run.invariant.1 ∙ updated_length _ _ _ in
    let size-values : length c.loop-run.values ≡ length c.args.values.now = ap length c.loop-run.invariant.2 ∙ updated_length _ _ _ in
    let run = upto_told _ _ _ _ _ c.loop-run.invariant.0 _ (sym c.in-Some.is ∙ c.run_upto.ensures) in (
      omega (arith, c.excess.ensures, c.excess-in-Some.ensures, run.some),
      omega (arith, c.excess-in-Some.ensures, run.on.few, size-marks, c.requires.room_marks),
      omega (arith, c.excess-in-Some.ensures, run.on.few, size-values, c.requires.room_values),
    )

pub loop-run-smaller : goal.loop-run-smaller
loop-run-smaller c =
    let run = upto_told _ _ _ _ _ c.loop-run.invariant.0 _ (sym c.in-Some.is ∙ c.run_upto.ensures) in
    omega (arith, run.some, run.cut.wanted)

pub loop-run-preserved : goal.loop-run-preserved
loop-run-preserved c =
    let run = upto_told _ _ _ _ _ c.loop-run.invariant.0 _ (sym c.in-Some.is ∙ c.run_upto.ensures) in
    let len = run_len c.args.v c.args.octets.now c.loop-run.at in
    let x = get_or c.args.octets.now c.loop-run.at 0 in
    let to = c.loop-run.bins + c.in-Some.run'.len in
    let had = between c.args.a c.loop-run.bins (levels c.args.v c.args.octets.now) in
    let n = (to - c.args.a) - (c.loop-run.bins - c.args.a) in
    let size : length had ≡ c.loop-run.bins - c.args.a = length_between (levels c.args.v c.args.octets.now) c.args.a c.loop-run.bins c.loop-run.invariant.0.within in
    let lo : c.excess.result ≡ length had = c.excess.ensures ∙ sym size in
    let on : c.loop-run.bins ≤ to = omega arith in
    let whole : length had + n ≡ to - c.args.a = ap (λ (m : ℕ). m + n) size ∙ joined c.args.a c.loop-run.bins to on in
    let hi : c.excess-in-Some.result ≡ length had + n = c.excess-in-Some.ensures ∙ sym whole in
    let many : c.excess-in-Some.result - c.excess.result ≡ n = omega (arith, lo, hi) in
    let reading = c.reading_of-reading.ensures ∙ ap (reading_of c.args.product) run.cut.is in
    let grown = between_more (levels c.args.v c.args.octets.now) (drop (c.loop-run.bins + len) (levels c.args.v c.args.octets.now)) c.args.marks.now c.args.a c.loop-run.bins to len x on (here_run c.args.v c.args.octets.now c.loop-run.at c.loop-run.bins run.stands run.more) (omega (arith, run.cut.size)) in
    let room : length had + n ≤ c.args.b - c.args.a = within c.args.a to c.args.b (length had + n) whole run.on.few in (
      run.on,
      c.put_reading.ensures.marks_after
          ∙ (λ i. placed (c.loop-run.invariant.1 i) (lo i) (replicate (many i) (mark_of (reading i))))
          ∙ marks_run c.args.product x had c.args.marks.now n (omega (arith, room, c.requires.room_marks))
          ∙ ap (λ (ls : List ℕ). updated (mark_at c.args.product) ls c.args.marks.now) (sym grown),
      c.put_reading.ensures.values_after
          ∙ (λ i. placed (c.loop-run.invariant.2 i) (lo i) (replicate (numbered_to (reading i) (lo i) (hi i) - lo i) (number_of (reading i))))
          ∙ values_run c.args.product x had c.args.values.now n (omega (arith, room, c.requires.room_values))
          ∙ ap (λ (ls : List ℕ). updated (held_at c.args.product) ls c.args.values.now) (sym grown),
    )

pub returns : goal.returns
unfolding marks_of values_of
returns c =
    let all = upto_all c.args.v c.args.octets.now c.args.b c.loop-run.at c.loop-run.bins c.loop-run.invariant.0 (sym c.in_default.is ∙ c.run_upto.ensures) c.requires.given in
    record {
      marks_after = c.loop-run.invariant.1 ∙ ap (λ (n : ℕ). updated (mark_at c.args.product) (between c.args.a n (levels c.args.v c.args.octets.now)) c.args.marks.now) all;
      values_after = c.loop-run.invariant.2 ∙ ap (λ (n : ℕ). updated (held_at c.args.product) (between c.args.a n (levels c.args.v c.args.octets.now)) c.args.values.now) all;
    }
