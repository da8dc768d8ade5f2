-- `readings_by` meets its contract: a record that fits has the bins in the octets from its offset on (From.antt).
use Prim.Native.Nat.{◌≤◌}
use mathlib.Core.Path.{◌≡◌, sym, ◌∙◌}
use mathlib.Core.Bool.{true}
use native.Mathlib.Omega.{arith}
use lib.ListN.{length}
use Rattle.index.specs.Index.{usable}
use Rattle.values.proofs.Passed.{base_low}
use Rattle.cuts.proofs.From.{offset_inside, from_asks}
use Rattle.cuts.proofs.readings_by.Goals as goal

pub fits-requires : goal.fits-requires
fits-requires c = (base_low c.args.product c.args.v c.requires.0, c.requires.1)

pub slice_bounds-readings_from-count : goal.slice_bounds-readings_from-count
slice_bounds-readings_from-count c =
    let yes : usable c.args.v c.args.nb c.args.octets.now c.args.rec ≡ true = sym c.fits.ensures ∙ c.if-fits.true in
    let inside : c.args.rec.offset ≤ length c.args.octets.now = offset_inside c.args.product c.args.v c.args.nb c.args.octets.now c.args.rec c.requires.0 c.requires.1 (omega arith) (yes) in
    inside

pub slice_bounds-readings_from-start : goal.slice_bounds-readings_from-start
slice_bounds-readings_from-start c =
    let yes : usable c.args.v c.args.nb c.args.octets.now c.args.rec ≡ true = sym c.fits.ensures ∙ c.if-fits.true in
    let inside : c.args.rec.offset ≤ length c.args.octets.now = offset_inside c.args.product c.args.v c.args.nb c.args.octets.now c.args.rec c.requires.0 c.requires.1 (omega arith) (yes) in
    inside

pub readings_from-requires : goal.readings_from-requires
readings_from-requires c =
    let yes : usable c.args.v c.args.nb c.args.octets.now c.args.rec ≡ true = sym c.fits.ensures ∙ c.if-fits.true in
    from_asks c.args.product c.args.v c.args.nb c.args.octets.now c.args.rec c.requires.0 c.requires.1 (omega arith) yes _ _ c.requires.2 c.requires.3
