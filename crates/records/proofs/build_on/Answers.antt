-- By whether the row has a record for each ray: the walk then begins before the first ray of a good cut.
use Rattle.octets.proofs.Exits.{passed_on}
use Rattle.sections.proofs.Checking.{failed, held}
use mathlib.Core.Path.{refl, sym, ap, subst, ◌∙◌}
use mathlib.Core.List.{List}
use Prim.Native.Nat.{ℕ}
use native.Mathlib.Omega.{arith}
use borrow.Author.Tests.{leb-true, leb-false}
use Rattle.lent.specs.Lent.{front}
use Rattle.index.specs.Pace.{Going}
use Rattle.index.specs.declared.RayRecord.{RayRecord}
use Rattle.records.proofs.Starts.{build_short, build_fits, start_laid}
use Rattle.records.proofs.build_on.Goals as goal

pub returns-in_err-check : goal.returns-in_err-check
returns-in_err-check c =
    let f = failed _ _ _ c.check.ensures _ c.in_err-check.was c.from_residual.ensures.1 in
    rw f.1 (record { value = sym (build_short c.args.file.now _ c.args.c (omega (arith, leb-false _ _ f.0, c.rays_in-rays.ensures))); row_after = refl })

pub lay-requires : goal.lay-requires
lay-requires c =
    let fits = leb-true _ _ (held _ _ _ c.check.ensures c.in_ok-check.was) in
    (subst (λ (n : ℕ). Going c.args.file.now c.start_in.result n) (sym c.rays_in-rays.ensures) c.start_in.ensures.1, fits)

pub returns : goal.returns
returns c =
    let fits = leb-true _ _ (held _ _ _ c.check.ensures c.in_ok-check.was) in
    record {
      value = sym (build_fits c.args.file.now _ c.args.c (omega (arith, fits, c.rays_in-rays.ensures)));
      row_after = c.lay.ensures ∙ ap (λ (l : List RayRecord). front l c.args.row.now) (start_laid c.args.file.now c.args.c c.requires _ _ c.rays_in-rays.ensures c.start_in.ensures.0);
    }
