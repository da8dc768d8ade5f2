-- What is returned is run read's answer under V as it was handed in, and the lent levels are left so.
use mathlib.Core.Path.{sym, ◌∙◌}
use lib.ListN.{length}
use Rattle.c_words.proofs.Arguments.{read_narrow, out_narrow}
use Rattle.polar_c.proofs.polar_run_read.Goals as goal

pub returns : goal.returns
returns c =
    let e = rw c.narrow_v-octet.ensures at c.run_read.ensures.answered ∙ read_narrow c.args.v c.args.n c.args.octets.now (length c.args.out.now) in
    let h = rw (e, c.narrow_v-octet.ensures) at c.run_read.ensures.held ∙ out_narrow c.args.v c.args.n c.args.octets.now c.args.out.now in
    record { returned = rw (sym e) c.read_return.ensures; held = h }
