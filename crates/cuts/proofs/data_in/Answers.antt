-- The part from octet 6 to the end of section 7.
use Rattle.base_format.specs.Parts.{data_at}
use Rattle.rules.specs.Fields.{length_at}
use lib.ListN.{take, drop}
use native.Mathlib.Omega.{arith}
use Prim.Native.Nat.{ℕ, ◌+◌, ◌-◌}
use mathlib.Core.Path.{◌≡◌, ap}
use Rattle.cuts.proofs.data_in.Goals as goal

pub returns : goal.returns
unfolding data_at
returns c = let len = length_at c.args.file.now c.args.c.section7 in
    let span : c.end_at-to.result - (c.args.c.section7 + 5) ≡ len - 5 = omega arith in
    ap (λ (k : ℕ). take k (drop (c.args.c.section7 + 5) c.args.file.now)) span
