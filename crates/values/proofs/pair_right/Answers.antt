-- Two octets write a value exactly when the number that they make is its sign and magnitude, octet for octet.
use mathlib.Core.Path.{◌∙◌, ap}
use mir.Facts.{to_z-of_z}
use native.Mathlib.Omega.{arith}
use Rattle.values.specs.Table.{sign_magnitude}
use Rattle.values.proofs.Octets.{pair_is}
use Rattle.values.proofs.pair_right.Goals as goal

pub returns : goal.returns
returns c = let due = c.sign_magnitude-due.ensures ∙ ap sign_magnitude (to_z-of_z c.ranges.value) in
    pair_is c.args.high c.args.low c.args.value _ due (omega (arith, due, c.requires)) (omega arith) (omega arith)
