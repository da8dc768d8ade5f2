-- `run_read` meets its contract: the tests in the order of FORMAT.md, "Order of checks", then the scan, then all bins, which the octets are known to give.
use Prim.Native.Nat.{◌-◌, ◌≤◌}
use mathlib.Core.Path.{◌≡◌, refl, sym, ap, ◌∙◌}
use mathlib.Core.List.{List}
use mathlib.Core.Bool.{true}
use Prim.Native.Nat.{ℕ}
use native.Mathlib.Omega.{arith}
use lib.ListN.{length}
use lib.Seq.{take_all}
use borrow.Author.Tests.{lt-ltb, le-ltb, le-leb}
use Rattle.runs.specs.Run.{levels, gives, fault_at}
use Rattle.lent.specs.Lent.{front}
use Rattle.bare.specs.Read.{read_answer}
use Rattle.bare.specs.declared.ReadRefusal.TheVariants.{Data}
use Rattle.runs.proofs.Here.{gives_true}
use Rattle.octets.proofs.Exits.{passed_on}
use Rattle.bare.proofs.Mapped.{mapped_scan, found_all}
use Rattle.bare.proofs.run_read.Goals as goal
use Rattle.std.specs.Prelude.{Err, Result, ⊤}

pub returns-then-v-gt253 : goal.returns-then-v-gt253
unfolding read_answer
returns-then-v-gt253 c = record { answered = simp (lt-ltb _ _ c.if-v-gt253.true); held = refl }

pub returns-then-n-gt2097152 : goal.returns-then-n-gt2097152
unfolding read_answer
returns-then-n-gt2097152 c = record { answered = simp (lt-ltb _ _ c.if-n-gt2097152.true, le-ltb _ _ c.if-v-gt253.false); held = refl }

pub returns-then-out-n : goal.returns-then-out-n
unfolding read_answer
returns-then-out-n c = let few : c.args.n ≤ 2097152 = omega arith in record { answered = simp (lt-ltb _ _ c.if-out-n.true, le-ltb _ _ few, le-ltb _ _ c.if-v-gt253.false); held = refl }

-- the scan, as the refusal that comes of it
pub returns-in_err-map_err : goal.returns-in_err-map_err
unfolding read_answer
returns-in_err-map_err c =
    let told = mapped_scan Data c.args.v c.args.n c.args.octets.now _ _ c.scan_runs.ensures c.map_err.ensures.cases in
    let out = passed_on _ _ c.from_residual.ensures.1 in
    rw out (record { answered = simp (le-ltb _ _ c.if-out-n.false, le-ltb _ _ c.if-n-gt2097152.false, le-ltb _ _ c.if-v-gt253.false) (sym c.in_err-map_err.was ∙ told); held = refl })

pub levels_upto-requires-clause-v_bound : goal.levels_upto-requires-clause-v_bound
levels_upto-requires-clause-v_bound c =
    let told = mapped_scan Data c.args.v c.args.n c.args.octets.now _ _ c.scan_runs.ensures c.map_err.ensures.cases in
    let g = gives_true c.args.v c.args.n c.args.octets.now (found_all Data _ _ (sym c.in_ok-map_err.was ∙ told)) in (omega arith, omega arith, g.0)

pub returns : goal.returns
unfolding read_answer
returns c =
    let told = mapped_scan Data c.args.v c.args.n c.args.octets.now _ _ c.scan_runs.ensures c.map_err.ensures.cases in
    let yes = found_all Data _ _ (sym c.in_ok-map_err.was ∙ told) in
    let g = gives_true c.args.v c.args.n c.args.octets.now yes in
    record {
      answered = simp (le-ltb _ _ c.if-out-n.false, le-ltb _ _ c.if-n-gt2097152.false, le-ltb _ _ c.if-v-gt253.false, yes);
      held = c.levels_upto.ensures.out_after (c.levels_upto.ensures.value ∙ le-leb c.args.n (length (levels c.args.v c.args.octets.now)) (omega (arith, g.1))) ∙ ap (λ (l : List ℕ). front l c.args.out.now) (take_all (c.args.n - 0) (levels c.args.v c.args.octets.now) (omega (arith, g.1)));
    }
