-- `put_more_lines` meets its contract: some lines are left, or all are written.
use native.Mathlib.Omega.{arith}
use Rattle.listing.proofs.Steps.{step_lines, step_past}
use Rattle.listing.proofs.put_more_lines.Goals as goal

pub returns-then-written-n : goal.returns-then-written-n
returns-then-written-n c =
    step_lines c.args.file.now c.args.words.now c.args.text.now c.put_entries-to.new.out c.args.at c.put_entries-to.result c.args.part c.args.l c.args.written
    c.min-n.result c.requires.in_words (omega (arith, c.min-n.ensures, c.requires.in_words.some_left)) c.put_entries-to.ensures (omega (arith, c.min-n.ensures, c.requires.in_words.some_left)) c.if-written-n.true

pub returns : goal.returns
returns c =
    step_past c.args.file.now c.args.words.now c.args.text.now c.put_entries-to.new.out c.args.at c.put_entries-to.result c.args.part c.args.l c.args.written
    c.min-n.result c.requires.in_words (omega (arith, c.min-n.ensures, c.requires.in_words.some_left)) c.put_entries-to.ensures (omega (arith, c.min-n.ensures, c.requires.in_words.some_left)) c.if-written-n.false
    c.moved_on-next.result (c.moved_on-next.ensures c.args.words.now)
