-- Field by field.
use Rattle.polar.proofs.summary_of.Goals as goal

pub returns : goal.returns
returns c =
    λ i. record { product = c.product_in-product.ensures i; time = c.time_of-time.ensures i; site = c.site_at-site.ensures i; cuts = c.args.n }
