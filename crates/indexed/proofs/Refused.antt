-- FORMAT.md, "Rays by a record", the refusals, both ways: a call refuses by exactly the reasons of `records` specs/Reasons.antt, and answers exactly where none of them holds; then no lent memory has changed; by a record it never refuses by 8.
-- The idea: the answer is a function of the verdict and of three tests.
use Prim.Native.Nat.{ℕ, ◌≤◌, ◌<◌, min}
use mathlib.Core.Path.{◌≡◌, refl, sym, ◌∙◌}
use mathlib.Core.Logic.{◌↔◌}
use mathlib.Core.Bool.{true, false}
use mathlib.Core.List.{List}
use native.Mathlib.Omega.{arith}
use lib.Dec.{ltb, leb, eqb}
use lib.ListN.{length}
use lib.IntN.{ℤ}
use Rattle.index.specs.declared.RayRecord.{RayRecord}
use Rattle.sections.specs.Refusal.{refuse, number_of}
use Rattle.sections.specs.Parts.{bins_in, rays_in}
use Rattle.sections.specs.declared.Cut.{Cut}
use Rattle.sections.specs.declared.Refusal.{Refusal}
use Rattle.base_format.specs.Parts.{data_at, greatest_in}
use Rattle.base_format.specs.Checks.{base_checks, any_data_checks}
use Rattle.base_format.specs.Accepted.{base_format, any_data_format}
use Rattle.base_format.proofs.Exact.{exact, any_exact}
use Rattle.base_format.proofs.AnyData.{never_eight}
use Rattle.cuts.specs.Records.{usable_in}
use Rattle.calls.specs.Reasons.{by_file, no_cut, on_its_cut, by_argument, by_room, by_record}
use Rattle.calls.proofs.Judging.{Judges, refuses, answers_exactly, never, not_le, ray_judges}
use Rattle.records.specs.Records.{from_on, from_answer, levels_from, marks_from, values_from, build_on, build_answer, row_after}
use Rattle.records.specs.Promises.{BuildPromise, LevelsFromPromise, ValuesFromPromise}
use Rattle.records.specs.Reasons.{BuildReasons, Unfit, FromReasons}
use Rattle.indexed.proofs.Unfit.{unfit_not, not_unfit}
use Rattle.std.specs.Prelude.{Err, Ok, Result, ⊤}

from_judges : (s : List ℕ) (ray room : ℕ) (rec : RayRecord) (c : Cut)
    → Judges {A = Result ⊤ Refusal} Err (λ a. a ≡ Ok tt) (ltb ray (rays_in s c)) (leb (bins_in s c) room) (usable_in s c rec) (Ok tt) (rays_in s c ≤ ray) (room < bins_in s c)
    (Unfit (greatest_in s c) (bins_in s c) (data_at s c.section7) rec)
unfolding usable_in
from_judges s ray room rec c = ray_judges s ray room c (usable_in s c rec) (not_unfit _ _ _ rec, unfit_not _ _ _ rec)

from_refuses : (s : List ℕ) (i ray room : ℕ) (rec : RayRecord) (q : Refusal) → (from_answer s i ray rec room ≡ Err q) ↔ FromReasons s i ray room rec q
unfolding from_answer from_on
from_refuses s i ray room rec = refuses any_data_checks any_data_format any_exact s i (from_judges s ray room rec)

-- ── ray levels by a record ──

module _ (s : List ℕ) (i ray : ℕ) (rec : RayRecord) where
  pub levels_from_refused : (q : Refusal) (out out' : List ℕ) → LevelsFromPromise s i ray rec out (Err q) out'
      → FromReasons s i ray (length out) rec q × (out' ≡ out)
  unfolding levels_from
  levels_from_refused q out out' p = ((from_refuses s i ray (length out) rec q).0 (sym p.answer), p.after)

  pub refused_levels_from : (q : Refusal) (out out' : List ℕ) (r : Result ⊤ Refusal) → FromReasons s i ray (length out) rec q
      → LevelsFromPromise s i ray rec out r out' → r ≡ Err q
  refused_levels_from q out out' r k p = p.answer ∙ (from_refuses s i ray (length out) rec q).1 k

  -- ── ray values by a record; of the two rooms the smaller counts ──

  pub values_from_refused : (q : Refusal) (marks marks' : List ℕ) (values values' : List ℤ) → ValuesFromPromise s i ray rec marks values (Err q) marks' values'
      → FromReasons s i ray (min (length marks) (length values)) rec q × (marks' ≡ marks) × (values' ≡ values)
  unfolding marks_from values_from
  values_from_refused q marks marks' values values' p = ((from_refuses s i ray (min (length marks) (length values)) rec q).0 (sym p.answer), p.marked, p.valued)

  pub refused_values_from : (q : Refusal) (marks marks' : List ℕ) (values values' : List ℤ) (r : Result ⊤ Refusal)
      → FromReasons s i ray (min (length marks) (length values)) rec q → ValuesFromPromise s i ray rec marks values r marks' values' → r ≡ Err q
  refused_values_from q marks marks' values values' r k p = p.answer ∙ (from_refuses s i ray (min (length marks) (length values)) rec q).1 k

  -- "every file check but 8"
  pub from_never_8 : (room : ℕ) (q : Refusal) → FromReasons s i ray room rec q → eqb (number_of q.why) 8 ≡ false
  unfolding refuse
  from_never_8 room q (by_file h) = never_eight s q h
  from_never_8 room q (no_cut k le) = refl
  from_never_8 room q (on_its_cut k lt (by_argument w)) = refl
  from_never_8 room q (on_its_cut k lt (by_room w short)) = refl
  from_never_8 room q (on_its_cut k lt (by_record w fits u)) = refl

-- ── building ──

build_judges : (s : List ℕ) (room : ℕ) (c : Cut) → Judges {A = Result ⊤ Refusal} Err (λ a. a ≡ Ok tt) true (leb (rays_in s c) room) true (Ok tt) ⊥ (room < rays_in s c) ⊥
build_judges s room c =
    record { wrong = never; short = not_le (rays_in s c) room; unfit = never; answered = refl; not_refused = λ q e. let z : ◌≡◌ {A = ℕ} 0 1 = cc e in omega arith; same = λ p q e. cc e }

build_refuses : (s : List ℕ) (i room : ℕ) (q : Refusal) → (build_answer s i room ≡ Err q) ↔ BuildReasons s i room q
unfolding build_answer build_on
build_refuses s i room = refuses base_checks base_format exact s i (build_judges s room)

module _ (s : List ℕ) (i : ℕ) (q : Refusal) (row row' : List RayRecord) where
  pub build_refused : BuildPromise s i row (Err q) row' → BuildReasons s i (length row) q × (row' ≡ row)
  unfolding row_after
  build_refused p = ((build_refuses s i (length row) q).0 (sym p.answer), p.after)

  pub refused_build : (r : Result ⊤ Refusal) → BuildReasons s i (length row) q → BuildPromise s i row r row' → r ≡ Err q
  refused_build r h p = p.answer ∙ (build_refuses s i (length row) q).1 h

-- ── and each answers exactly where no reason to refuse holds ──

module _ (s : List ℕ) (i : ℕ) where
  from_answers : (ray room : ℕ) (rec : RayRecord) → (from_answer s i ray rec room ≡ (Ok tt)) ↔ ((q : Refusal) → FromReasons s i ray room rec q → ⊥)
  unfolding from_answer from_on
  from_answers ray room rec = answers_exactly any_data_checks any_data_format any_exact s i (from_judges s ray room rec)

  pub levels_from_answered : (ray : ℕ) (rec : RayRecord) (out out' : List ℕ) (a : Result ⊤ Refusal) → LevelsFromPromise s i ray rec out a out'
      → (a ≡ (Ok tt)) ↔ ((q : Refusal) → FromReasons s i ray (length out) rec q → ⊥)
  levels_from_answered ray rec out out' a p = rw p.answer (from_answers ray (length out) rec)

  pub values_from_answered : (ray : ℕ) (rec : RayRecord) (marks marks' : List ℕ) (values values' : List ℤ) (a : Result ⊤ Refusal) → ValuesFromPromise s i ray rec marks values a marks' values'
      → (a ≡ (Ok tt)) ↔ ((q : Refusal) → FromReasons s i ray (min (length marks) (length values)) rec q → ⊥)
  values_from_answered ray rec marks marks' values values' a p = rw p.answer (from_answers ray (min (length marks) (length values)) rec)

  pub build_answered : (row row' : List RayRecord) (a : Result ⊤ Refusal) → BuildPromise s i row a row' → (a ≡ (Ok tt)) ↔ ((q : Refusal) → BuildReasons s i (length row) q → ⊥)
  unfolding build_answer build_on
  build_answered row row' a p = rw p.answer (answers_exactly base_checks base_format exact s i (build_judges s (length row)))
