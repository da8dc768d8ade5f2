-- The last octets of the number at 64 bits are those of its width.
use Rattle.std.proofs.Common.{ℕ, ◌-◌, List, take, drop, ap, ◌∙◌, arith}
use Rattle.octets.specs.Octets.{in_octets}
use Rattle.lent.proofs.Putting.{named}
use Rattle.lent.proofs.Numbers.{last_octets}
use Rattle.lent.proofs.put_be.Goals as goal

pub returns : goal.returns
returns g c = named (ap (λ (l : List ℕ). take (8 - (8 - c.WIDTH.result)) (drop (8 - c.WIDTH.result) l)) c.to_be_bytes-octets.ensures ∙ last_octets c.wide.result c.WIDTH.result (omega (arith, c.WIDTH.ensures, g.met.T.Number.few)) ∙ (λ i. in_octets (c.WIDTH.ensures i) (c.wide.ensures.value i))) c.put_octets.ensures
