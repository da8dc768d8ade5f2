-- `longer` meets its contract: the run at the front, cut off past so many bins, tells; the end says that there are no octets.
use Prim.Native.Nat.{◌+◌}
use mathlib.Core.Path.{sym, ◌∙◌}
use native.Mathlib.Omega.{arith}
use Rattle.runs.proofs.Upto.{cut_told, cut_ended_lem}
use Rattle.index.proofs.Usable.{longer_none, longer_cut}
use Rattle.index.proofs.longer.Goals as goal

pub returns-in-Some : goal.returns-in-Some
returns-in-Some c =
    let t = cut_told c.args.v _ c.args.octets.now 0 _ (sym c.in-Some.is ∙ c.run_upto.ensures) in
    longer_cut c.args.v 0 c.args.octets.now c.args.before t.inside _ _ t.is t.size

pub returns-in-None : goal.returns-in-None
returns-in-None c =
    longer_none c.args.v 0 c.args.octets.now c.args.before (cut_ended_lem c.args.v (c.args.before + 1) c.args.octets.now 0 (sym c.in-None.is ∙ c.run_upto.ensures) (omega arith))
