-- T and the point are those that came in.
use mathlib.Core.Path.{◌∙◌, ap}
use mathlib.Core.Bool.{◌&&◌}
use mir.ValLaws.{to_z-of_z}
use mir.Syntax.{w32}
use Rattle.stretches.specs.Call.{right_t, right_point}
use Rattle.polar.proofs.right_list.Goals as goal

pub returns : goal.returns
returns c =
    let t = c.right_t.ensures ∙ ap right_t (to_z-of_z w32 c.args.t c.ranges.t) in
    let p = c.right_point.ensures ∙ (λ i. right_point (c.bins_in-nb.ensures i) (c.rays_in-nr.ensures i) c.args.ray c.args.bin) in
    (λ i. t i && p i)
