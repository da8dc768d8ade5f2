-- What `readings_by` asks and gives, said of a cut (From.antt).
use mathlib.Core.Path.{◌∙◌}
use mathlib.Core.Bool.{cond}
use Rattle.values.specs.Ray.{marks_of, values_of}
use Rattle.cuts.proofs.From.{same_usable, same_ray}
use Rattle.cuts.proofs.readings_from.Goals as goal

pub returns : goal.returns
returns c = let row = same_ray c.args.file.now c.args.c _ _ _ c.greatest_in-v.ensures c.bins_in-nb.ensures c.data_in.ensures c.args.rec in record { value = c.readings_by.ensures.value ∙ same_usable c.args.file.now c.args.c _ _ _ c.greatest_in-v.ensures c.bins_in-nb.ensures c.data_in.ensures c.args.rec; marks_after = c.readings_by.ensures.marks_after ∙ (λ i. cond c.readings_by.result (marks_of (c.product_in-product.ensures i) (row i) c.args.marks.now) c.args.marks.now); values_after = c.readings_by.ensures.values_after ∙ (λ i. cond c.readings_by.result (values_of (c.product_in-product.ensures i) (row i) c.args.values.now) c.args.values.now) }
