-- `put_kind` meets its contract: the word of the kind that the number stands for, and the end of the line.
use Rattle.std.proofs.Common.{◌++◌, sym, ap, ◌∙◌}
use Rattle.lent.proofs.Putting.{named, then}
use Rattle.lines.specs.Text.{kind_text, newline}
use Rattle.lines.proofs.put_kind.Goals as goal
use Rattle.kinds.specs.declared.Kind.{Kind}
use Rattle.std.specs.Prelude.{Option}

pub returns-clause-put : goal.returns-clause-put
returns-clause-put c =
    let is = sym c.by_number.ensures ∙ c.in-Some.is in
    named (sym (ap (λ (x : Option Kind). kind_text x ++ newline) is)) (then (then c.put_octets-a.ensures c.put_word-b.ensures.put) c.put_octets-2.ensures)
