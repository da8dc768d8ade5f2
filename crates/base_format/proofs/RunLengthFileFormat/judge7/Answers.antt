-- Length, then data: the octet at fault stands in the section, so its place fits.
use Rattle.base_format.specs.Parts.{data_at}
use Rattle.scan.specs.Inner.{scanned}
use Rattle.scan.proofs.Scanning.{told, missed}
use Rattle.sections.specs.Refusal.{refuse}
use Rattle.sections.specs.declared.Why.TheVariants.{Data}
use Rattle.sections.specs.declared.Context.{Context}
use Rattle.sections.proofs.Checking.{held}
use Rattle.base_format.proofs.Bounds.{fault_upto}
use Rattle.rules.specs.Fields.{length_at, points_at}
use Rattle.base_format.specs.Fields.{greatest_at}
use borrow.Author.Tests.{leb-true}
use native.Mathlib.Omega.{arith}
use Prim.Native.Nat.{ℕ, ◌+◌, ◌-◌}
use mathlib.Core.Path.{◌≡◌, sym, ap, ◌∙◌}
use mathlib.Core.List.{List}
use lib.ListN.{take, drop}
use Rattle.base_format.proofs.RunLengthFileFormat.judge7.Goals as goal
use Rattle.std.specs.Prelude.{Err}

-- what is scanned is the section's data, by what section 5 and section 3 say
data_scanned : (s : List ℕ) (x : Context) (at len v bins : ℕ) → len ≡ length_at s at → v ≡ greatest_at s x.section5 → bins ≡ points_at s x.section3
    → scanned v bins (take (at + len - (at + 5)) (drop (at + 5) s)) ≡ scanned (greatest_at s x.section5) (points_at s x.section3) (data_at s at)
unfolding data_at
data_scanned s x at len v bins e g p = let span : at + len - (at + 5) ≡ length_at s at - 5 = omega (arith, e) in
    λ i. scanned (g i) (p i) (take (span i) (drop (at + 5) s))

pub overflow_add-place : goal.overflow_add-place
overflow_add-place c =
    let long = leb-true 6 (length_at c.args.s.now c.args.at) (held _ _ _ c.judge7.ensures c.in_ok-judge7.was) in
    let off = missed _ _ _ (sym c.in-Err.is ∙ c.scan_runs.ensures ∙ data_scanned c.args.s.now c.args.x c.args.at _ _ _ c.length_at-len.ensures c.greatest_at-v.ensures c.points_at-bins.ensures) in
    record { fits = omega (arith, off.1, fault_upto c.args.s.now c.args.x c.args.at (omega (arith, long)) c.requires.at_in_bounds, c.requires.at_in_bounds) }

pub returns-in-Ok : goal.returns-in-Ok
returns-in-Ok c =
    let long = held _ _ _ c.judge7.ensures c.in_ok-judge7.was in
    let exact = told _ _ (sym c.in-Ok.is ∙ c.scan_runs.ensures ∙ data_scanned c.args.s.now c.args.x c.args.at _ _ _ c.length_at-len.ensures c.greatest_at-v.ensures c.points_at-bins.ensures) in
    rw (long, exact)

pub returns-in-Err : goal.returns-in-Err
returns-in-Err c =
    let long = held _ _ _ c.judge7.ensures c.in_ok-judge7.was in
    let off = missed _ _ _ (sym c.in-Err.is ∙ c.scan_runs.ensures ∙ data_scanned c.args.s.now c.args.x c.args.at _ _ _ c.length_at-len.ensures c.greatest_at-v.ensures c.points_at-bins.ensures) in
    rw (long, off.0) (ap Err c.refuse.ensures ∙ ap (λ (i : ℕ). Err (refuse Data (c.args.at + 5 + i))) off.1)
