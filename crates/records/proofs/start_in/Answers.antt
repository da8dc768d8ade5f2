-- What a good cut says of its data.
use mathlib.Core.Path.{◌≡◌, ◌∙◌}
use Prim.Native.Nat.{◌+◌}
use native.Mathlib.Omega.{arith}
use Rattle.rules.specs.Fields.{length_at}
use Rattle.records.specs.Building.{start_in}
use Rattle.records.proofs.Starts.{start_going}
use Rattle.records.proofs.start_in.Goals as goal

pub returns : goal.returns
unfolding length_at
returns c = let e : c.at_front.result ≡ start_in c.args.file.now c.args.c = c.at_front.ensures ∙ (λ j. record { rec = record { offset = 0; before = 0 }; from = c.args.c.section7 + 5; to = c.args.c.section7 + c.length_at-len.ensures j; v = c.greatest_in-v.ensures j; nb = c.bins_in-nb.ensures j; bin = 0; hand = record { at = 0; bins = 0; end = 0; next = 0 } }) in
    (e, start_going c.args.file.now c.args.c c.requires (omega (arith, c.length_at-len.ensures, c.length_at-len.type_inv)) _ e)
