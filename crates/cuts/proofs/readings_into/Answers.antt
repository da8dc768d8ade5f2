-- What `values::readings_into` asks and gives, said of a good cut (Places.antt).
use mathlib.Core.Path.{◌∙◌}
use Rattle.values.specs.Ray.{marks_of, values_of}
use Rattle.cuts.proofs.Places.{readings_ask, ray_gives}
use Rattle.cuts.proofs.readings_into.Goals as goal

pub readings_into-requires : goal.readings_into-requires
readings_into-requires c = let whole = readings_ask c.args.file.now c.args.c c.requires.good_cut _ _ c.greatest_in-v.ensures c.data_in.ensures _ c.args.ray c.bins_in-nb.ensures c.requires.ray_bound.0 _ c.product_in-product.ensures _ _ c.requires.ray_bound.1 c.requires.ray_bound.2 in record { bins = whole.0; a_lt_b = whole.1 }

pub returns : goal.returns
returns c = let row = ray_gives c.args.file.now c.args.c c.requires.good_cut _ _ c.greatest_in-v.ensures c.data_in.ensures _ c.args.ray c.bins_in-nb.ensures c.requires.ray_bound.0 in record { marks_after = c.readings_into.ensures.marks_after ∙ (λ i. marks_of (c.product_in-product.ensures i) (row i) c.args.marks.now); values_after = c.readings_into.ensures.values_after ∙ (λ i. values_of (c.product_in-product.ensures i) (row i) c.args.values.now) }
