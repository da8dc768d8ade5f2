-- What `levels_into` asks and gives, said of a good cut (Places.antt).
use Rattle.cuts.proofs.Places.{fill_asks, fill_gives}
use mathlib.Core.Path.{◌∙◌}
use Rattle.cuts.proofs.bins_into.Goals as goal

pub levels_into-requires : goal.levels_into-requires
levels_into-requires c = let whole = fill_asks _ _ c.requires.good_cut _ _ c.greatest_in-v.ensures c.data_in.ensures _ _ _ c.requires.count_bound.0 c.requires.count_bound.1 in record { v_bound = whole.0; a_le_b = whole.1 }

pub returns : goal.returns
returns c = c.levels_into.ensures ∙ fill_gives _ _ c.requires.good_cut _ _ c.greatest_in-v.ensures c.data_in.ensures _ _ _
