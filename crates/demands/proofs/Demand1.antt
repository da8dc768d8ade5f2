-- DEMAND 1. Any octets may be lent. Every call gives its answer or one numbered refusal with its place, by FORMAT.md, "Order of checks", and on a
-- refusal no octet or word of a lent buffer has changed. Both ways: a call refuses so exactly where its reason holds (`polar` specs/Reasons.antt), and answers exactly where none does. (That every call ends and
-- asks nothing: each function is proved, and none has a `requires`.) The idea: the answer is a function of the verdict, so it is taken apart by the verdict and then by each test.
use Prim.Native.Nat.{ℕ, ◌≤◌, ◌<◌, min}
use mathlib.Core.Path.{◌≡◌, refl, sym, ◌∙◌, subst}
use mathlib.Core.Logic.{◌⊎◌, inl, inr, ◌↔◌}
use mathlib.Core.List.{List}
use mathlib.Core.Bool.{true, false, ◌&&◌}
use native.Mathlib.Omega.{arith}
use lib.Dec.{ltb, leb}
use lib.ListN.{length}
use lib.IntN.{ℤ}
use Rattle.sections.specs.Parts.{bins_in, rays_in}
use Rattle.sections.specs.declared.Cut.{Cut}
use Rattle.sections.specs.declared.Refusal.{Refusal}
use Rattle.base_format.specs.Parts.{product_in, level_in}
use Rattle.base_format.specs.Checks.{base_checks}
use Rattle.base_format.specs.Verdict.{RefusedBy}
use Rattle.base_format.specs.Accepted.{base_format}
use Rattle.base_format.proofs.Exact.{exact}
use Rattle.fraction.specs.Quotient.{hundredths}
use Rattle.values.specs.Reading.{reading_of}
use Rattle.values.specs.declared.Reading.{Reading}
use Rattle.values.specs.declared.Reading.TheVariants as N
use Rattle.stretches.specs.Stretch.{per_entry}
use Rattle.stretches.specs.Call.{right_t, right_point, answer_of}
use Rattle.stretches.specs.declared.Listing.{Listing}
use Rattle.cuts.specs.Bins.{stretches_in}
use Rattle.calls.proofs.ByVerdict.{file_refused, by_file_verdict, file_answers}
use Rattle.calls.proofs.Judging.{Judges, refuses, answers_exactly, never, not_le, not_both, ray_judges, BinAnswered, bin_judges}
use Rattle.polar.specs.Opening.{summary_of, open_answer, info_of, cut_answer}
use Rattle.polar.specs.Rays.{ray_on, ray_answer, levels_after, marks_after, values_after, bin_of, bin_on, bin_answer}
use Rattle.polar.specs.Stretching.{stretches_on, stretch_answer, words_after}
use Rattle.polar.specs.Promises.{OpenPromise, CutPromise, LevelsPromise, ValuesPromise, BinPromise, StretchesPromise}
use Rattle.polar.specs.Reasons.{CutReasons, RayReasons, BinReasons, ListReasons}
use Rattle.polar.specs.declared.Summary.{Summary}
use Rattle.polar.specs.declared.CutInfo.{CutInfo}
use Rattle.std.specs.Prelude.{Err, Ok, Option, Result, ⊤, Float}

-- ── open ──

pub open_refused : (s : List ℕ) (r : Refusal) → OpenPromise s (Err r) → RefusedBy s r
unfolding open_answer
open_refused s r p =
    by_file_verdict base_checks base_format exact s Err (λ n c. Ok (summary_of s n c)) (Err r) (RefusedBy s r)
    (λ q k e. let same : q ≡ r = cc e in subst (RefusedBy s) same k)
    (λ cs k e. let z : ◌≡◌ {A = ℕ} 0 1 = cc e in absurd (omega arith))
    (sym p.answer)

pub refused_open : (s : List ℕ) (r : Refusal) (a : Result Summary Refusal) → RefusedBy s r → OpenPromise s a → a ≡ Err r
unfolding open_answer
refused_open s r a h p = p.answer ∙ file_refused base_checks base_format exact s _ _ r h

-- ── cut ──

cut_judges : (s : List ℕ) (c : Cut) → Judges Err (λ a. (m : CutInfo) × (a ≡ Ok m)) true true true (Ok (info_of s c)) ⊥ ⊥ ⊥
cut_judges s c =
    record { wrong = never; short = never; unfit = never; answered = (info_of s c, refl); not_refused = λ q h. let z : ◌≡◌ {A = ℕ} 0 1 = cc h.1 in omega arith; same = λ p q e. cc e }

cut_refuses : (s : List ℕ) (i : ℕ) (q : Refusal) → (cut_answer s i ≡ Err q) ↔ CutReasons s i q
unfolding cut_answer
cut_refuses s i = refuses base_checks base_format exact s i (cut_judges s)

pub cut_refused : (s : List ℕ) (i : ℕ) (q : Refusal) → CutPromise s i (Err q) → CutReasons s i q
cut_refused s i q p = (cut_refuses s i q).0 (sym p.answer)

pub refused_cut : (s : List ℕ) (i : ℕ) (q : Refusal) (a : Result CutInfo Refusal) → CutReasons s i q → CutPromise s i a → a ≡ Err q
refused_cut s i q a h p = p.answer ∙ (cut_refuses s i q).1 h

-- ── the ray calls ──

ray_refuses : (s : List ℕ) (i ray room : ℕ) (q : Refusal) → (ray_answer s i ray room ≡ Err q) ↔ RayReasons s i ray room q
unfolding ray_answer ray_on
ray_refuses s i ray room = refuses base_checks base_format exact s i (λ c. ray_judges s ray room c true never)

module _ (s : List ℕ) (i ray : ℕ) (q : Refusal) where
  pub levels_refused : (out out' : List ℕ) → LevelsPromise s i ray out (Err q) out' → RayReasons s i ray (length out) q × (out' ≡ out)
  unfolding levels_after
  levels_refused out out' p = ((ray_refuses s i ray (length out) q).0 (sym p.answer), p.after)

  pub refused_levels : (out out' : List ℕ) (a : Result ⊤ Refusal) → RayReasons s i ray (length out) q → LevelsPromise s i ray out a out' → a ≡ Err q
  refused_levels out out' a h p = p.answer ∙ (ray_refuses s i ray (length out) q).1 h

  pub values_refused : (marks marks' : List ℕ) (values values' : List ℤ) → ValuesPromise s i ray marks values (Err q) marks' values'
      → RayReasons s i ray (min (length marks) (length values)) q × (marks' ≡ marks) × (values' ≡ values)
  unfolding marks_after values_after
  values_refused marks marks' values values' p = ((ray_refuses s i ray (min (length marks) (length values)) q).0 (sym p.answer), p.marked, p.valued)

  pub refused_values : (marks marks' : List ℕ) (values values' : List ℤ) (a : Result ⊤ Refusal) → RayReasons s i ray (min (length marks) (length values)) q
      → ValuesPromise s i ray marks values a marks' values' → a ≡ Err q
  refused_values marks marks' values values' a h p = p.answer ∙ (ray_refuses s i ray (min (length marks) (length values)) q).1 h

-- ── bin value ──

-- a reading is answered
reading_answered : (x : Reading) → BinAnswered (Ok (bin_of x))
unfolding bin_of
reading_answered N.Missing = inl refl
reading_answered (N.Number z) = inr (hundredths z, refl)

bin_judged : (s : List ℕ) (ray bin : ℕ) (c : Cut) → Judges Err BinAnswered (ltb ray (rays_in s c) && ltb bin (bins_in s c)) true true (Ok (bin_of (reading_of (product_in s c) (level_in s c ray bin)))) ((rays_in s c ≤ ray) ⊎ (bins_in s c ≤ bin)) ⊥ ⊥
bin_judged s ray bin c = bin_judges s ray bin c _ (reading_answered _)

bin_refuses : (s : List ℕ) (i ray bin : ℕ) (q : Refusal) → (bin_answer s i ray bin ≡ Err q) ↔ BinReasons s i ray bin q
unfolding bin_answer bin_on
bin_refuses s i ray bin = refuses base_checks base_format exact s i (bin_judged s ray bin)

pub bin_refused : (s : List ℕ) (i ray bin : ℕ) (q : Refusal) → BinPromise s i ray bin (Err q) → BinReasons s i ray bin q
bin_refused s i ray bin q p = (bin_refuses s i ray bin q).0 (sym p.answer)

pub refused_bin : (s : List ℕ) (i ray bin : ℕ) (q : Refusal) (a : Result (Option Float) Refusal) → BinReasons s i ray bin q → BinPromise s i ray bin a → a ≡ Err q
refused_bin s i ray bin q a h p = p.answer ∙ (bin_refuses s i ray bin q).1 h

-- ── stretches ──

list_judges : (s : List ℕ) (t : ℤ) (ray bin room : ℕ) (c : Cut)
    → Judges Err (λ a. (l : Listing) × (a ≡ Ok l)) (right_t t && right_point (bins_in s c) (rays_in s c) ray bin) (leb per_entry room) true
    (Ok (answer_of (rays_in s c) room (stretches_in s c t ray bin))) ((right_t t ≡ false) ⊎ (right_point (bins_in s c) (rays_in s c) ray bin ≡ false)) (room < per_entry) ⊥
list_judges s t ray bin room c =
    record {
      wrong = not_both _ _ (λ e. e, λ e. e) (λ e. e, λ e. e);
      short = not_le per_entry room;
      unfit = never;
      answered = (_, refl);
      not_refused = λ q h. let z : ◌≡◌ {A = ℕ} 0 1 = cc h.1 in omega arith;
      same = λ p q e. cc e;
    }

list_refuses : (s : List ℕ) (i : ℕ) (t : ℤ) (ray bin room : ℕ) (q : Refusal) → (stretch_answer s i t ray bin room ≡ Err q) ↔ ListReasons s i t ray bin room q
unfolding stretch_answer stretches_on
list_refuses s i t ray bin room = refuses base_checks base_format exact s i (list_judges s t ray bin room)

module _ (s : List ℕ) (i : ℕ) (t : ℤ) (ray bin : ℕ) (words words' : List ℕ) (q : Refusal) where
  pub stretches_refused : StretchesPromise s i t ray bin words (Err q) words' → ListReasons s i t ray bin (length words) q × (words' ≡ words)
  unfolding words_after
  stretches_refused p = ((list_refuses s i t ray bin (length words) q).0 (sym p.answer), p.after)

  pub refused_stretches : (a : Result Listing Refusal) → ListReasons s i t ray bin (length words) q → StretchesPromise s i t ray bin words a words' → a ≡ Err q
  refused_stretches a h p = p.answer ∙ (list_refuses s i t ray bin (length words) q).1 h

-- ── and it answers exactly where no reason to refuse holds ──

module _ (s : List ℕ) where
  pub open_answered : (a : Result Summary Refusal) → OpenPromise s a → ((m : Summary) × (a ≡ Ok m)) ↔ ((q : Refusal) → RefusedBy s q → ⊥)
  unfolding open_answer
  open_answered a p =
      rw p.answer
      (file_answers base_checks base_format exact s _ _ (λ x. (m : Summary) × (x ≡ Ok m)) (λ n c. (_, refl)) (λ q h. let z : ◌≡◌ {A = ℕ} 0 1 = cc h.1 in omega arith))

  pub cut_answered : (i : ℕ) (a : Result CutInfo Refusal) → CutPromise s i a → ((m : CutInfo) × (a ≡ Ok m)) ↔ ((q : Refusal) → CutReasons s i q → ⊥)
  unfolding cut_answer
  cut_answered i a p = rw p.answer (answers_exactly base_checks base_format exact s i (cut_judges s))

  ray_answers : (i ray room : ℕ) → (ray_answer s i ray room ≡ (Ok tt)) ↔ ((q : Refusal) → RayReasons s i ray room q → ⊥)
  unfolding ray_answer ray_on
  ray_answers i ray room = answers_exactly base_checks base_format exact s i (λ c. ray_judges s ray room c true never)

  pub levels_answered : (i ray : ℕ) (out out' : List ℕ) (a : Result ⊤ Refusal) → LevelsPromise s i ray out a out' → (a ≡ (Ok tt)) ↔ ((q : Refusal) → RayReasons s i ray (length out) q → ⊥)
  levels_answered i ray out out' a p = rw p.answer (ray_answers i ray (length out))

  pub values_answered : (i ray : ℕ) (marks marks' : List ℕ) (values values' : List ℤ) (a : Result ⊤ Refusal) → ValuesPromise s i ray marks values a marks' values'
      → (a ≡ (Ok tt)) ↔ ((q : Refusal) → RayReasons s i ray (min (length marks) (length values)) q → ⊥)
  values_answered i ray marks marks' values values' a p = rw p.answer (ray_answers i ray (min (length marks) (length values)))

  pub bin_answered : (i ray bin : ℕ) (a : Result (Option Float) Refusal) → BinPromise s i ray bin a → BinAnswered a ↔ ((q : Refusal) → BinReasons s i ray bin q → ⊥)
  unfolding bin_answer bin_on
  bin_answered i ray bin a p = rw p.answer (answers_exactly base_checks base_format exact s i (bin_judged s ray bin))

  pub stretches_answered : (i : ℕ) (t : ℤ) (ray bin : ℕ) (words words' : List ℕ) (a : Result Listing Refusal) → StretchesPromise s i t ray bin words a words'
      → ((l : Listing) × (a ≡ Ok l)) ↔ ((q : Refusal) → ListReasons s i t ray bin (length words) q → ⊥)
  unfolding stretch_answer stretches_on
  stretches_answered i t ray bin words words' a p = rw p.answer (answers_exactly base_checks base_format exact s i (list_judges s t ray bin (length words)))
