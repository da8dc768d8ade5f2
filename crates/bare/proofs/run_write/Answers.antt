-- `run_write` meets its contract: the tests in the order of FORMAT.md, "Order of checks", then the writing.
use Prim.Native.Nat.{ℕ, ◌≤◌, ◌<◌}
use mathlib.Core.Path.{◌≡◌, refl, sym, ap, ◌∙◌}
use mathlib.Core.Bool.{true, false}
use native.Mathlib.Omega.{arith}
use lib.ListN.{length}
use lib.Dec.{leb}
use borrow.Author.Tests.{lt-ltb, le-ltb, leb-true, leb-false}
use Rattle.lent.specs.Lent.{front}
use Rattle.packing.specs.Write.{greatest, written}
use Rattle.bare.specs.Write.{write_answer}
use Rattle.bare.proofs.run_write.Goals as goal
use Rattle.std.specs.Prelude.{Ok}

pub returns-then-levels-gt2097152 : goal.returns-then-levels-gt2097152
unfolding write_answer
returns-then-levels-gt2097152 c = record { answered = simp (lt-ltb _ _ c.if-levels-gt2097152.true); held = refl }

pub returns-then-v-gt252 : goal.returns-then-v-gt252
unfolding write_answer
returns-then-v-gt252 c = let high : 252 < greatest c.args.levels.now = omega (arith, c.greatest_of-v.ensures) in
    record { answered = simp (le-ltb _ _ c.if-levels-gt2097152.false, lt-ltb _ _ high); held = refl }

pub returns-then-not-has_room : goal.returns-then-not-has_room
unfolding write_answer
returns-then-not-has_room c = let room = length c.args.out.now in
    let low : greatest c.args.levels.now ≤ 252 = omega (arith, c.greatest_of-v.ensures) in
    let no : leb (length (written (greatest c.args.levels.now) c.args.levels.now)) room ≡ false = ap (λ (x : ℕ). leb (length (written x c.args.levels.now)) room) (sym c.greatest_of-v.ensures) ∙ sym c.has_room.ensures ∙ c.if-not-has_room.true in
    let short : room < length (written (greatest c.args.levels.now) c.args.levels.now) = leb-false _ _ no in
    record { answered = simp (le-ltb _ _ c.if-levels-gt2097152.false, le-ltb _ _ low, lt-ltb _ _ short); held = refl }

pub returns : goal.returns
unfolding write_answer
returns c = let room = length c.args.out.now in
    let n = c.put_all-len.ensures.value ∙ ap (λ (x : ℕ). length (written x c.args.levels.now)) c.greatest_of-v.ensures in
    let low : greatest c.args.levels.now ≤ 252 = omega (arith, c.greatest_of-v.ensures) in
    let yes : leb (length (written (greatest c.args.levels.now) c.args.levels.now)) room ≡ true = ap (λ (x : ℕ). leb (length (written x c.args.levels.now)) room) (sym c.greatest_of-v.ensures) ∙ sym c.has_room.ensures ∙ c.if-not-has_room.false in
    let enough : length (written (greatest c.args.levels.now) c.args.levels.now) ≤ room = leb-true _ _ yes in
    record {
      answered = simp (le-ltb _ _ c.if-levels-gt2097152.false, le-ltb _ _ low, le-ltb _ _ enough) (λ i. Ok (record { v = c.greatest_of-v.ensures i; len = n i }));
      held = c.put_all-len.ensures.out_after ∙ ap (λ (x : ℕ). front (written x c.args.levels.now) c.args.out.now) c.greatest_of-v.ensures;
    }
