-- `put_entries` meets its contract: what the lines still to be put would make of the octets is what all lines make of them.
use Prim.Native.Nat.{ℕ, ◌+◌, ◌-◌}
use mathlib.Core.Path.{◌≡◌, sym, ap, ◌∙◌}
use mathlib.Core.List.{List}
use native.Mathlib.Omega.{arith}
use lib.ListN.{length}
use Rattle.lent.specs.Lent.{placed}
use Rattle.lent.proofs.Lent.{placed_none}
use Rattle.lines.proofs.Lines.{entries_none, more_put}
use Rattle.lines.specs.Text.{entry_lines}
use Rattle.lines.specs.Words.{entries_in}
use Rattle.lines.proofs.put_entries.Goals as goal

pub loop-i-preserved : goal.loop-i-preserved
loop-i-preserved c =
    let left = c.args.first + c.args.count - c.loop-i.i in
    let next = more_put c.args.words.now c.loop-i.out c.put_entry-to.new.out c.loop-i.to c.put_entry-to.result c.loop-i.i left (omega arith) c.put_entry-to.ensures.put in
    let less : c.args.first + c.args.count - (c.loop-i.i + 1) ≡ left - 1 = omega arith in
    let rest = ap (λ (n : ℕ). entry_lines (entries_in c.args.words.now (c.loop-i.i + 1) n)) less in (
      omega arith,
      omega arith,
      c.put_entry-to.auto.out ∙ c.loop-i.invariant.2,
      ap (λ (t : List ℕ). placed c.put_entry-to.new.out c.put_entry-to.result t) rest ∙ next.0 ∙ c.loop-i.invariant.3,
      ap (λ (t : List ℕ). c.put_entry-to.result + length t) rest ∙ next.1 ∙ c.loop-i.invariant.4,
    )

pub returns : goal.returns
returns c =
    let none = entries_none c.args.words.now c.loop-i.i (c.args.first + c.args.count - c.loop-i.i) (omega arith) in record {
      there = placed_none c.loop-i.out c.loop-i.to ∙ ap (λ (t : List ℕ). placed c.loop-i.out c.loop-i.to t) (sym none) ∙ c.loop-i.invariant.3;
      past = omega (arith, ap length none, c.loop-i.invariant.4);
      inside = omega (arith, c.requires.1);
    }
