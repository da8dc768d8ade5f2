-- By what the call asks of the cut (`calls` Judging.antt): T and the point, then room for an entry.
use Rattle.octets.proofs.Exits.{passed_on}
use mathlib.Core.Path.{◌≡◌, refl, sym, ◌∙◌, ap}
use mathlib.Core.List.{List}
use mathlib.Core.Bool.{Bool, true, ◌&&◌}
use Prim.Native.Nat.{ℕ}
use lib.IntN.{ℤ}
use lib.ListN.{length}
use mir.ValLaws.{to_z-of_z}
use mir.Syntax.{w32}
use Rattle.rules.proofs.Chains.{and_true_both}
use Rattle.sections.specs.Parts.{bins_in, rays_in}
use Rattle.sections.specs.declared.Cut.{Cut}
use Rattle.stretches.specs.Call.{answer_of, out_of, right_t, right_point}
use Rattle.cuts.specs.Bins.{stretches_in}
use Rattle.calls.proofs.Judging.{judged_bad, judged_fine}
use Rattle.polar.specs.Stretching.{stretches_on}
use Rattle.polar.proofs.stretches_on.Goals as goal
use Rattle.std.specs.Prelude.{Err, Ok}

-- whether T and the point may be asked for, by T
abbrev right_on : List ℕ → Cut → ℕ → ℕ → ℤ → Bool
right_on s c ray bin t = right_t t && right_point (bins_in s c) (rays_in s c) ray bin

pub returns-in_err-judge : goal.returns-in_err-judge
unfolding stretches_on
returns-in_err-judge c =
    let right : c.right_list-right.result ≡ right_on c.args.file.now c.args.c c.args.ray c.args.bin c.args.t =
    c.right_list-right.ensures ∙ ap (right_on c.args.file.now c.args.c c.args.ray c.args.bin) (to_z-of_z w32 c.args.t c.ranges.t) in
    rw (passed_on _ _ c.from_residual.ensures.1) (record { value = rw (← right) (sym (judged_bad Err c.args.c true _ _ _ _ (sym c.judge.ensures ∙ c.in_err-judge.was))); words_after = refl })

pub list_into-requires : goal.list_into-requires
list_into-requires c =
    let h = judged_fine _ _ (sym c.judge.ensures ∙ c.in_ok-judge.was) in
    let right : c.right_list-right.result ≡ right_on c.args.file.now c.args.c c.args.ray c.args.bin c.args.t =
    c.right_list-right.ensures ∙ ap (right_on c.args.file.now c.args.c c.args.ray c.args.bin) (to_z-of_z w32 c.args.t c.ranges.t) in
    record { good_cut = c.requires; bin_value = (and_true_both (right_t c.args.t) _ (sym right ∙ h.0)).1 }

pub returns : goal.returns
unfolding stretches_on
returns c =
    let back = to_z-of_z w32 c.args.t c.ranges.t in
    let right : c.right_list-right.result ≡ right_on c.args.file.now c.args.c c.args.ray c.args.bin c.args.t =
    c.right_list-right.ensures ∙ ap (right_on c.args.file.now c.args.c c.args.ray c.args.bin) back in
    let h = judged_fine _ _ (sym c.judge.ensures ∙ c.in_ok-judge.was) in
    record {
      value = rw (← right, h.0, h.1) (ap Ok (c.list_into.ensures.value ∙ ap (λ (t : ℤ). answer_of (rays_in c.args.file.now c.args.c) (length c.args.words.now) (stretches_in c.args.file.now c.args.c t c.args.ray c.args.bin)) back));
      words_after = c.list_into.ensures.words_after ∙ ap (λ (t : ℤ). out_of c.args.words.now (stretches_in c.args.file.now c.args.c t c.args.ray c.args.bin)) back;
    }
