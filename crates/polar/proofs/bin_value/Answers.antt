-- By the cut that was sought, which is good (`calls` Finding.antt).
use Rattle.octets.proofs.Exits.{passed_on}
use Rattle.calls.proofs.Finding.{on_found, on_refused, good_cut}
use Rattle.polar.specs.Rays.{bin_answer}
use mathlib.Core.Path.{sym, ◌∙◌}
use Rattle.polar.proofs.bin_value.Goals as goal

pub bin_value_on-requires : goal.bin_value_on-requires
bin_value_on-requires c =
    let told = sym c.find.ensures ∙ c.in_ok-find.was in
    good_cut _ _ _ told

pub returns : goal.returns
unfolding bin_answer
returns c =
    let told = sym c.find.ensures ∙ c.in_ok-find.was in
    record { answer = c.bin_value_on.ensures ∙ sym (on_found _ _ _ _ _ told) }

pub returns-in_err-find : goal.returns-in_err-find
unfolding bin_answer
returns-in_err-find c =
    rw (passed_on _ _ c.from_residual.ensures.1) (record { answer = sym (on_refused _ _ _ _ _ (sym c.find.ensures ∙ c.in_err-find.was)) })
