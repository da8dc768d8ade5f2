-- "Every file call is lent the whole file and makes all these checks itself. Then 10": what a call on cut i of a file comes to.
use Rattle.std.specs.Prelude.{ℕ, List, Bool, true, cond, ltb, length, get_or, Err, Ok, Result, ⊤}
use Rattle.sections.specs.Refusal.{refuse}
use Rattle.sections.specs.Verdict.{Verdict, accepted, refused, default_cut}
use Rattle.base_format.specs.Verdict.{verdict, any_data_verdict}
use Rattle.sections.specs.declared.Cut.{Cut}
use Rattle.sections.specs.declared.Refusal.{Refusal}
use Rattle.sections.specs.declared.Why.TheVariants.{Argument, Room, Record}
use Rattle.walks.specs.declared.Found.{Found}

-- the file's own refusal; then 10 where the file has no cut i; then what the cut says
unfoldable pub on_cut : {A : Type 0} → (Refusal → A) → (Cut → A) → ℕ → Verdict → A
on_cut bad some i (accepted cs) = cond (ltb i (length cs)) (some (get_or cs i default_cut)) (bad (refuse Argument 0))
on_cut bad some i (refused r) = bad r

-- on the cut: 10 where an argument is not right; then 11 where lent room is too short; then 13 where the record does not fit, at section 7; then its answer
abbrev pub judged : {A : Type 0} → (Refusal → A) → Cut → Bool → Bool → Bool → A → A
judged bad c right roomy fits answer = cond right (cond roomy (cond fits answer (bad (refuse Record c.section7))) (bad (refuse Room 0))) (bad (refuse Argument 0))

-- a call on the whole file: the file's own refusal; or what it says with the number of cuts and the first cut
unfoldable pub on_file : {A : Type 0} → (Refusal → A) → (ℕ → Cut → A) → Verdict → A
on_file bad some (accepted cs) = some (length cs) (get_or cs 0 default_cut)
on_file bad some (refused r) = bad r

-- cut i of a file
unfoldable pub cut_at : ℕ → Verdict → Cut
cut_at i (accepted cs) = get_or cs i default_cut
cut_at i (refused r) = default_cut

abbrev pub cut_in : List ℕ → ℕ → Cut
cut_in s i = cut_at i (verdict s)

abbrev pub cut_any_data : List ℕ → ℕ → Cut
cut_any_data s i = cut_at i (any_data_verdict s)

-- lent memory after a call that fills it: what is written, or what it was
abbrev pub if_written : {A : Type 0} → Result ⊤ Refusal → A → A → A
if_written (Ok tt) new old = new
if_written (Err r) new old = old

-- what a call goes by: no promise of a call cites these
abbrev pub sought_in : ℕ → Verdict → Result Cut Refusal
sought_in = on_cut Err Ok

abbrev pub sought_by : ℕ → Found → Result Cut Refusal
sought_by i f = cond (ltb i f.cuts) (Ok f.cut) (Err (refuse Argument 0))

unfoldable pub judged_by : Bool → Bool → Result ⊤ Refusal
judged_by right roomy = judged Err default_cut right roomy true (Ok tt)
