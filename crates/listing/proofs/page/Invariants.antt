-- Before each step: the octets written so far are a page, the words are as many as they were, and fewer steps are left each time.
use mathlib.Core.Path.{◌≡◌}
use lib.ListN.{length}
use Rattle.listing.specs.Progress.{steps_left, Paged}
use Rattle.listing.proofs.page.Given as goal

abbrev pub invariant-loop-at : goal.invariant-loop-at
invariant-loop-at l = Paged l.file l.words l.initial.text l.initial.next l.text (record { len = l.at; next = l.next }) × (length l.words ≡ length l.initial.words)

abbrev pub decreases-loop-at : goal.decreases-loop-at
decreases-loop-at l = steps_left l.file l.next
