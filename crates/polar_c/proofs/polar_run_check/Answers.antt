-- What is returned is run check's answer under V as it was handed in.
use mathlib.Core.Path.{sym, ◌∙◌}
use Rattle.c_words.proofs.Arguments.{check_narrow}
use Rattle.polar_c.proofs.polar_run_check.Goals as goal

pub returns : goal.returns
returns c =
    let e = rw c.narrow_v-octet.ensures at c.run_check.ensures.answered in
    record { returned = rw (sym (e ∙ check_narrow c.args.v c.args.n c.args.octets.now)) c.check_return.ensures }
