-- A place that the loop over runs tells is inside the octets behind the blocks: with the blocks' octets it is inside all.
use Prim.Native.Nat.{ℕ}
use mathlib.Core.Path.{◌≡◌, sym, ap, ◌∙◌}
use mathlib.Core.List.{List}
use native.Mathlib.Omega.{arith}
use lib.ListN.{drop, length-drop}
use Rattle.runs.specs.Run.{gives, fault_at}
use Rattle.runs.proofs.Fault.{fault_inside}
use Rattle.lent.proofs.Lent.{to_end}
use Rattle.scan.specs.Inner.{scanned}
use Rattle.scan.proofs.Scanning.{missed}
use Rattle.scan.proofs.scan_runs.Goals as goal

pub overflow_add-place : goal.overflow_add-place
overflow_add-place c =
    let behind : (c.by_runs.result ≡ scanned c.args.v c.by_blocks-far.result.left (drop c.by_blocks-far.result.at c.args.octets.now)) = c.by_runs.ensures ∙ ap (λ (l : List ℕ). scanned c.args.v c.by_blocks-far.result.left l) (to_end c.args.octets.now c.by_blocks-far.result.at) in
    let rest : List ℕ = drop c.by_blocks-far.result.at c.args.octets.now in
    let no = missed (gives c.args.v c.by_blocks-far.result.left rest) (fault_at c.args.v c.by_blocks-far.result.left rest) c.in-Err.i (sym c.in-Err.is ∙ behind) in
    omega (arith, no.1, fault_inside c.args.v c.by_blocks-far.result.left rest, length-drop c.by_blocks-far.result.at c.args.octets.now, c.by_blocks-far.ensures.0)
