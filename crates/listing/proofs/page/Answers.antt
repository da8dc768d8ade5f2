-- `page` meets its contract: the steps so far make a page.
use mathlib.Core.Path.{sym, ◌∙◌}
use Rattle.listing.proofs.Pages.{page_some, page_more}
use Rattle.listing.proofs.page.Goals as goal

pub loop-at-preserved : goal.loop-at-preserved
loop-at-preserved c = (page_more _ _ _ _ _ _ _ _ _ _ c.loop-at.invariant.0 c.step-s.ensures, c.step-s.auto.words ∙ c.loop-at.invariant.1)

pub returns-then-is_finished : goal.returns-then-is_finished
returns-then-is_finished c = record { paged = c.loop-at.invariant.0; len_nonzero = page_some _ _ _ _ _ _ c.loop-at.invariant.0 (sym c.is_finished.ensures ∙ c.if-is_finished.true) }
