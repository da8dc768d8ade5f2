-- `put_first_line` meets its contract: the numbers are those of the cut.
use mathlib.Core.Path.{ap, ◌∙◌}
use Rattle.lines.specs.Text.{head_line}
use Rattle.lent.proofs.Putting.{named}
use Rattle.base_format.specs.Parts.{product_number}
use Rattle.listing.specs.Listing.{head_of}
use Rattle.stretches.specs.Call.{house_threshold}
use Rattle.listing.proofs.put_first_line.Goals as goal

pub returns : goal.returns
unfolding head_of
returns c =
    let n = c.product_number-product.ensures ∙ ap product_number c.product_in.ensures in
    named (λ i. head_line c.args.part.number (n i) (c.bins_in-bins.ensures i) (c.rays_in-rays.ensures i) house_threshold) c.put_head.ensures
