-- `readings_into` meets its contract: the bins lie in the octets from the run on that holds bin a (Passed.antt).
use Prim.Native.Nat.{◌≤◌}
use native.Mathlib.Omega.{arith}
use lib.ListN.{length}
use Rattle.runs.proofs.Passed.{passed_inside}
use Rattle.values.proofs.Passed.{base_low}
use Rattle.values.proofs.readings_into.Goals as goal

pub seek-hand-requires : goal.seek-hand-requires
seek-hand-requires c = record { v_bound = (base_low c.args.product c.args.v c.requires.bins.low, c.requires.bins.opened, c.requires.a_lt_b.1); a_in_bounds = omega (arith, c.requires.a_lt_b.0, c.requires.bins.given) }

pub slice_bounds-readings_from-count : goal.slice_bounds-readings_from-count
slice_bounds-readings_from-count c =
    let inside : c.seek-hand.result.at ≤ length c.args.octets.now = omega (arith, passed_inside c.args.v c.args.a c.args.b c.args.octets.now c.requires.a_lt_b.0 c.requires.bins.given c.seek-hand.result c.seek-hand.ensures) in
    inside

pub slice_bounds-readings_from-start : goal.slice_bounds-readings_from-start
slice_bounds-readings_from-start c =
    let inside : c.seek-hand.result.at ≤ length c.args.octets.now = omega (arith, passed_inside c.args.v c.args.a c.args.b c.args.octets.now c.requires.a_lt_b.0 c.requires.bins.given c.seek-hand.result c.seek-hand.ensures) in
    inside
