-- By the cut that was sought, which is good (`calls` Finding.antt).
use Rattle.octets.proofs.Exits.{passed_on}
use Rattle.calls.proofs.Finding.{on_found, on_refused, cut_found, good_cut}
use Rattle.polar.specs.Stretching.{stretches_on, stretch_answer, words_after, if_listed}
use Rattle.cuts.specs.Bins.{stretches_in}
use Rattle.stretches.specs.Call.{out_of}
use mir.ValLaws.{to_z-of_z}
use mir.Syntax.{w32}
use lib.IntN.{ℤ}
use lib.ListN.{length}
use mathlib.Core.Path.{refl, sym, ◌∙◌, ap}
use Rattle.polar.proofs.stretches.Goals as goal

pub stretches_on-requires : goal.stretches_on-requires
stretches_on-requires c =
    let told = sym c.find.ensures ∙ c.in_ok-find.was in
    good_cut _ _ _ told

pub returns : goal.returns
unfolding stretch_answer words_after
returns c =
    let told = sym c.find.ensures ∙ c.in_ok-find.was in
    let back = to_z-of_z w32 c.args.t c.ranges.t in
    let same = sym (cut_found _ _ _ told) in
    record {
      answer =
          c.stretches_on.ensures.value
          ∙ ap (λ (t : ℤ). stretches_on c.args.file.now t c.args.ray c.args.bin (length c.args.words.now) c.in_ok-find.field-0) back
          ∙ sym (on_found _ _ _ _ _ told);
      after = c.stretches_on.ensures.words_after ∙ (λ i. if_listed c.stretches_on.result (out_of c.args.words.now (stretches_in c.args.file.now (same i) (back i) c.args.ray c.args.bin)) c.args.words.now);
    }

pub returns-in_err-find : goal.returns-in_err-find
unfolding stretch_answer words_after
returns-in_err-find c =
    rw (passed_on _ _ c.from_residual.ensures.1) (record { answer = sym (on_refused _ _ _ _ _ (sym c.find.ensures ∙ c.in_err-find.was)); after = refl })
