-- `run_check` meets its contract: the tests in the order of FORMAT.md, "Order of checks", then what a scan finds.
use mathlib.Core.Path.{refl}
use borrow.Author.Tests.{lt-ltb, le-ltb}
use Rattle.bare.specs.Read.{check_answer}
use Rattle.bare.specs.declared.CheckRefusal.TheVariants.{Data}
use Rattle.bare.proofs.Mapped.{mapped_scan}
use Rattle.bare.proofs.run_check.Goals as goal

pub returns-then-v-gt253 : goal.returns-then-v-gt253
unfolding check_answer
returns-then-v-gt253 c = record { answered = simp (lt-ltb _ _ c.if-v-gt253.true) }

pub returns-then-n-gt2097152 : goal.returns-then-n-gt2097152
unfolding check_answer
returns-then-n-gt2097152 c = record { answered = simp (lt-ltb _ _ c.if-n-gt2097152.true, le-ltb _ _ c.if-v-gt253.false) }

pub returns-then-octets-lt-BLOCK : goal.returns-then-octets-lt-BLOCK
unfolding check_answer
returns-then-octets-lt-BLOCK c = record { answered = simp (le-ltb _ _ c.if-v-gt253.false, le-ltb _ _ c.if-n-gt2097152.false) (mapped_scan Data c.args.v c.args.n c.args.octets.now _ _ c.by_runs.ensures c.map_err.ensures.cases) }

pub returns : goal.returns
unfolding check_answer
returns c = record { answered = simp (le-ltb _ _ c.if-v-gt253.false, le-ltb _ _ c.if-n-gt2097152.false) (mapped_scan Data c.args.v c.args.n c.args.octets.now _ _ c.scan_runs.ensures c.map_err-2.ensures.cases) }
