-- The words put are those of run write's answer, and the lent octets are left as it left them.
use mathlib.Core.Path.{sym}
use Rattle.polar_c.proofs.polar_run_write.Goals as goal

pub returns : goal.returns
returns c =
    let e = sym c.run_write.ensures.answered in
    record { returned = rw e c.put_write.ensures.value; held = rw e c.run_write.ensures.held; answered = rw e c.put_write.ensures.words_after }
