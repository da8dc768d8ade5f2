-- What `index::levels_from` asks and gives, said of a cut (From.antt).
use mathlib.Core.Path.{ap, ◌∙◌}
use mathlib.Core.List.{List}
use mathlib.Core.Bool.{cond}
use Prim.Native.Nat.{ℕ}
use native.Mathlib.Omega.{arith}
use Rattle.lent.specs.Lent.{front}
use Rattle.cuts.proofs.Places.{greatest_small}
use Rattle.cuts.proofs.From.{same_usable, same_ray}
use Rattle.cuts.proofs.levels_from.Goals as goal

pub levels_from-requires : goal.levels_from-requires
levels_from-requires c = (omega (arith, c.greatest_in-v.ensures, greatest_small _ _ c.requires.any_data_cut), omega (arith, c.bins_in-nb.ensures, c.requires.any_data_cut.bins_few), omega (arith, c.bins_in-nb.ensures, c.requires.c_in_bounds))

pub returns : goal.returns
returns c = record { value = c.levels_from.ensures.value ∙ same_usable c.args.file.now c.args.c _ _ _ c.greatest_in-v.ensures c.bins_in-nb.ensures c.data_in.ensures c.args.rec; out_after = c.levels_from.ensures.out_after ∙ ap (λ (l : List ℕ). cond c.levels_from.result (front l c.args.out.now) c.args.out.now) (same_ray c.args.file.now c.args.c _ _ _ c.greatest_in-v.ensures c.bins_in-nb.ensures c.data_in.ensures c.args.rec) }
