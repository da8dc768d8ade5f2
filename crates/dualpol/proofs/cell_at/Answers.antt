-- Each width's cell (Cells.antt).
use Rattle.dualpol.proofs.Cells.{one_octet, two_octets}
use mathlib.Core.Path.{◌∙◌}
use mathlib.Core.Logic.{⊎_elim}
use Rattle.dualpol.proofs.cell_at.Goals as goal

pub returns-then-width-eq8 : goal.returns-then-width-eq8
returns-then-width-eq8 c = c.be.ensures ∙ one_octet c.args.file.now c.args.at c.args.n c.args.width c.if-width-eq8.true

pub returns : goal.returns
returns c = c.be-2.ensures ∙ two_octets c.args.file.now c.args.at c.args.n c.args.width (⊎_elim (λ e. absurd (c.if-width-eq8.false e)) (λ e. e) c.requires.2)
