-- What `level_at` asks and gives, said of a good cut (Places.antt).
use mathlib.Core.Path.{◌∙◌}
use native.Mathlib.Omega.{arith}
use Rattle.sections.specs.Parts.{bins_in}
use Rattle.cuts.proofs.Places.{level_asks, level_gives, level_few}
use Rattle.cuts.proofs.level_in.Goals as goal

pub level_at-requires : goal.level_at-requires
level_at-requires c = let whole = level_asks c.args.file.now c.args.c c.requires.good_cut _ _ c.greatest_in-v.ensures c.data_in.ensures _ c.args.ray c.bins_in.ensures c.requires.ray_bound.0 c.args.bin c.requires.ray_bound.1 in record { v_bound = whole.0; a_in_bounds = whole.1 }

pub returns : goal.returns
returns c = let e = c.level_at.ensures ∙ level_gives c.args.file.now c.args.c c.requires.good_cut _ _ c.greatest_in-v.ensures c.data_in.ensures _ c.args.ray c.bins_in.ensures c.requires.ray_bound.0 c.args.bin in
    (e, omega (arith, e, level_few c.args.file.now c.args.c c.requires.good_cut c.args.ray c.args.bin))
