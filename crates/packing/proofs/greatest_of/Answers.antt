-- `greatest_of` meets its contract: the greatest that a pass picks is the greatest by the definition.
use Rattle.std.proofs.Common.{ℕ, sym, ap, ◌∙◌}
use Rattle.std.specs.Option.{unwrap_or}
use Rattle.std.specs.declared.option.Option.{Option}
use Rattle.std.proofs.lemmas.Iterator.{YieldsList-from_slice}
use Rattle.std.proofs.lemmas.Iterator.Adapters.{option_map_id}
use Rattle.std.proofs.lemmas.Iterator.Consumers.{max_from_yields_List, YieldsList-from_copied}
use Rattle.packing.proofs.Digits.{greatest_picked}
use Rattle.packing.proofs.greatest_of.Goals as goal

pub returns : goal.returns
returns c =
    let road = YieldsList-from_copied (YieldsList-from_slice c.args.levels.now cc) in
    let picked = sym (option_map_id _) ∙ max_from_yields_List c.copied.result _ c.max.ensures.ran road in
    c.unwrap_or.ensures ∙ ap (λ (o : Option ℕ). unwrap_or o 0) picked ∙ greatest_picked c.args.levels.now
