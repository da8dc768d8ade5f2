-- `list_part` meets its contract: the words hold the entries that were listed.
use mathlib.Core.Path.{refl}
use Rattle.listing.proofs.Moving.{good_cut, to_write}
use Rattle.listing.proofs.list_part.Goals as goal

pub list_into-listing-requires : goal.list_into-listing-requires
list_into-listing-requires c = record { good_cut = good_cut c.args.file.now c.args.part c.requires.0; bin_value = c.requires.0.point }

pub returns : goal.returns
returns c = record { to_come = to_write c.args.file.now c.args.part c.args.words.now c.list_into-listing.result c.list_into-listing.new.words c.requires.0 c.requires.1 c.list_into-listing.ensures.value c.list_into-listing.ensures.words_after; result_value = refl }
