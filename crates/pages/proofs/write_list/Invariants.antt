-- `write_list` ends: the standing is sound, and with each page less is to come.
use Rattle.std.proofs.Common.{◌≡◌, length}
use Rattle.listing.specs.Progress.{text_from, Sound}
use Rattle.pages.proofs.write_list.Given as goal

abbrev pub invariant-loop-p : goal.invariant-loop-p
invariant-loop-p g l = Sound l.file l.words l.p × (length l.words ≡ length l.initial.words) × (length l.text ≡ length l.initial.text)

abbrev pub decreases-loop-p : goal.decreases-loop-p
decreases-loop-p g l = length (text_from l.file l.p)
