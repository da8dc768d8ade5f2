-- By the two tests; inside them the threshold has 16 bits.
use mathlib.Core.Path.{◌≡◌}
use mathlib.Core.Bool.{false}
use native.Mathlib.Omega.{arith}
use lib.IntN.{ℤ, pos, negsuc}
use lib.Signed.{lt_z}
use mir.Syntax.{w32, w64}
use mir.Val.{SFits, of_z, to_z}
use mir.ValLaws.{to_z-of_z}
use Rattle.stretches.specs.Call.{right_t}
use Rattle.c_words.proofs.Arguments.{threshold_small}
use Rattle.c_words.proofs.narrow_threshold.Goals as goal

-- past both tests
module _ (t : ℤ) (fits : SFits w64 t) (past_low : lt_z (to_z w64 (of_z w64 t)) (negsuc 32766) ≡ false) (past_high : lt_z (pos 32767) (to_z w64 (of_z w64 t)) ≡ false) where
  low : lt_z t (negsuc 32766) ≡ false
  low = rw (to_z-of_z w64 t fits) at past_low

  high : lt_z (pos 32767) t ≡ false
  high = rw (to_z-of_z w64 t fits) at past_high

  small : SFits w32 t
  small = let h = threshold_small t low high in record { sfits = omega arith }

pub returns-then-t-ltminus32767 : goal.returns-then-t-ltminus32767
unfolding right_t
returns-then-t-ltminus32767 c = let e = rw (to_z-of_z w64 c.args.t c.ranges.t) at c.if-t-ltminus32767.true in rw e

pub returns-then-t-gt32767 : goal.returns-then-t-gt32767
unfolding right_t
returns-then-t-gt32767 c =
    let e = rw (to_z-of_z w64 c.args.t c.ranges.t) at c.if-t-ltminus32767.false in
    let f = rw (to_z-of_z w64 c.args.t c.ranges.t) at c.if-t-gt32767.true in
    rw (e, f)

pub overflow_cast-result : goal.overflow_cast-result
overflow_cast-result c = rw (to_z-of_z w64 c.args.t c.ranges.t) (small c.args.t c.ranges.t c.if-t-ltminus32767.false c.if-t-gt32767.false)

pub returns : goal.returns
unfolding right_t
returns c =
    let s = small c.args.t c.ranges.t c.if-t-ltminus32767.false c.if-t-gt32767.false in
    let a = low c.args.t c.ranges.t c.if-t-ltminus32767.false c.if-t-gt32767.false in
    let b = high c.args.t c.ranges.t c.if-t-ltminus32767.false c.if-t-gt32767.false in
    rw (to_z-of_z w64 c.args.t c.ranges.t, to_z-of_z w32 c.args.t s, a, b)
