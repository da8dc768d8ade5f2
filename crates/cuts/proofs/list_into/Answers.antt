-- What `list_from` asks and gives, said of a good cut (Places.antt).
use mir.ValLaws.{to_z-of_z}
use mir.Syntax.{w32}
use Rattle.cuts.proofs.Places.{list_asks, list_gives}
use Rattle.stretches.specs.Call.{answer_of, out_of}
use lib.ListN.{length}
use mathlib.Core.Path.{◌∙◌, ap}
use Rattle.cuts.proofs.list_into.Goals as goal

pub list_from-requires : goal.list_from-requires
list_from-requires c = let whole = list_asks _ _ c.requires.good_cut _ _ c.greatest_in-v.ensures c.data_in.ensures _ _ _ c.bins_in-nb.ensures c.rays_in-nr.ensures c.product_in-product.ensures _ _ c.requires.bin_value in record { cut_data = whole.0; v_bound = whole.1 }

pub returns : goal.returns
returns c = let back = to_z-of_z w32 c.args.t c.ranges.t in
    let l = list_gives _ _ c.requires.good_cut _ _ c.greatest_in-v.ensures c.data_in.ensures _ _ _ c.bins_in-nb.ensures c.rays_in-nr.ensures c.product_in-product.ensures c.args.t _ c.args.ray c.args.bin back in record { value = c.list_from.ensures.value ∙ (λ i. answer_of (c.rays_in-nr.ensures i) (length c.args.words.now) (l i)); words_after = c.list_from.ensures.out_after ∙ ap (out_of c.args.words.now) l }
