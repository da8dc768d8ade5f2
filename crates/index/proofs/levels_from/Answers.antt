-- `levels_from` meets its contract: the octets from the record's offset on have it at their front.
use mathlib.Core.Path.{refl, sym, ap, ◌∙◌}
use mathlib.Core.List.{List}
use mathlib.Core.Bool.{cond}
use native.Mathlib.Omega.{arith}
use Prim.Native.Nat.{ℕ}
use Rattle.lent.specs.Lent.{front}
use Rattle.index.specs.Index.{usable, from_record}
use Rattle.lent.proofs.Lent.{to_end}
use Rattle.index.proofs.Usable.{usable_outside, usable_from}
use Rattle.index.proofs.levels_from.Goals as goal

pub returns-then-octets-at : goal.returns-then-octets-at
returns-then-octets-at c = record { value = sym (usable_outside c.args.v c.args.nb c.args.octets.now c.args.rec c.if-octets-at.true); out_after = refl }

pub returns : goal.returns
returns c = let part = to_end c.args.octets.now c.args.rec.offset in
    let same = usable_from c.args.v c.args.nb c.args.octets.now c.args.rec (omega (arith, c.if-octets-at.false)) in record { value = c.levels_in.ensures.value ∙ ap (λ (l : List ℕ). usable c.args.v c.args.nb l (record { offset = 0; before = c.args.rec.before })) part ∙ same; out_after = c.levels_in.ensures.out_after ∙ ap (λ (l : List ℕ). cond c.levels_in.result (front (from_record c.args.v c.args.nb l (record { offset = 0; before = c.args.rec.before })) c.args.out.now) c.args.out.now) part }
