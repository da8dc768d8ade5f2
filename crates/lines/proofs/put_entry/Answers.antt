-- `put_entry` meets its contract: the four words of an entry, piece by piece.
use mathlib.Core.Path.{refl}
use native.Mathlib.Omega.{arith}
use Rattle.lines.specs.Words.{entry_in}
use Rattle.lines.proofs.Lines.{entry_put}
use Rattle.lines.proofs.put_entry.Goals as goal

pub returns : goal.returns
returns c = record { put = entry_put (entry_in c.args.words.now c.args.i) c.put_word-a.ensures.put c.put_word-b.ensures.put c.put_word-c.ensures.put c.put_kind.ensures.put (refl, refl, refl, refl); upper_bound = omega (arith, c.put_word-a.ensures.upper_bound, c.put_word-b.ensures.upper_bound, c.put_word-c.ensures.upper_bound, c.put_kind.ensures.upper_bound) }
