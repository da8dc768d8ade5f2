-- Field by field.
use Rattle.dualpol.proofs.summary_of.Goals as goal

pub returns : goal.returns
returns c =
    λ i. record { parameter = c.parameter_at-parameter.ensures i; time = c.time_of-time.ensures i; site = c.site_at-site.ensures i; cuts = c.args.n }
