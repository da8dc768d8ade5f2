-- Field by field.
use mathlib.Core.Path.{ap, ◌∙◌}
use Rattle.polar.specs.Opening.{elevation_of, info_of}
use Rattle.polar.proofs.info_of.Goals as goal

pub returns : goal.returns
unfolding info_of
returns c = let elevation = c.elevation_of-elevation.ensures ∙ ap elevation_of c.field.ensures in
    λ i. record { grid = c.grid_at-grid.ensures i; start_azimuth = c.field-start_azimuth.ensures i; mode = c.field-mode.ensures i; elevation = elevation i }
