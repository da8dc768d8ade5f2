-- `put_word` meets its contract: a word for each kind.
use Rattle.std.proofs.Common.{sym, ap}
use Rattle.lent.proofs.Putting.{named}
use Rattle.kinds.specs.KindTable.{kind_word}
use Rattle.kinds.proofs.put_word.Goals as goal

pub returns-in-Missing-clause-put : goal.returns-in-Missing-clause-put
returns-in-Missing-clause-put c = named (sym (ap kind_word c.in-Missing.is)) c.put_octets.ensures

pub returns-in-Under-clause-put : goal.returns-in-Under-clause-put
returns-in-Under-clause-put c = named (sym (ap kind_word c.in-Under.is)) c.put_octets-in-Under.ensures

pub returns-in-Over-clause-put : goal.returns-in-Over-clause-put
returns-in-Over-clause-put c = named (sym (ap kind_word c.in-Over.is)) c.put_octets-in-Over.ensures
