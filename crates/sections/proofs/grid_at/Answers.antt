-- Field by field; the latitude, which is told with its sign, is what its bits are.
use Rattle.octets.specs.Octets.{signed}
use Rattle.sections.specs.Parts.{grid_at}
use mathlib.Core.Path.{ap, ◌∙◌}
use mir.ValLaws.{to_z-of_z}
use mir.Syntax.{w32}
use Rattle.sections.proofs.grid_at.Goals as goal

pub returns : goal.returns
unfolding grid_at
returns c = let told = to_z-of_z w32 c.signed-latitude.result (record { sfits = c.signed-latitude.type_inv }) ∙ c.signed-latitude.ensures ∙ ap (signed 4) c.field.ensures in
    λ i. record {
      nb = c.bins_at-nb.ensures i;
      nr = c.rays_at-nr.ensures i;
      latitude = told i;
      longitude = c.field-longitude.ensures i;
      dx = c.field-dx.ensures i;
      dstart = c.field-dstart.ensures i;
    }
