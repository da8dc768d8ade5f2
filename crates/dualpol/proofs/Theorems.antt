-- THE THEOREMS of the calls of a dual-polarisation file, over their promises: a file is accepted exactly when none of the format's refusals applies, a refusal
-- is by the format's order, a missing cell is never a number, and a number is within |Y| / 2^51 of the exact one. Each promise allows one answer.
-- The idea: the answer is a function of the verdict, which is exact, and of the cell.
use Prim.Native.Nat.{ℕ, ◌-◌, ◌^◌, ◌≤◌, ◌<◌}
use mathlib.Core.Path.{◌≡◌, refl, sym, ◌∙◌, ap, subst}
use mathlib.Core.Logic.{◌⊎◌, inl, inr, ◌↔◌}
use mathlib.Core.List.{List}
use mathlib.Core.Bool.{Bool, true, false, cond, ◌&&◌}
use native.Mathlib.Omega.{arith}
use borrow.Author.Tests.{lt-ltb, eqb-true, eq-eqb, ne_eqb}
use lib.Dec.{ltb, eqb}
use lib.ListN.{length, get_or}
use lib.Ieee.{Float}
use Rattle.scaled.specs.Scaled.{Right, cell_of, scaled_value}
use Rattle.sections.specs.Parts.{bins_in, rays_in, grid_at}
use Rattle.sections.specs.Verdict.{default_cut}
use Rattle.sections.specs.declared.Cut.{Cut}
use Rattle.sections.specs.declared.Grid.{Grid}
use Rattle.sections.specs.declared.Refusal.{Refusal}
use Rattle.dual_format.specs.Checks.{dual_checks}
use Rattle.dual_format.specs.Accepted.{dual_format, Accepted}
use Rattle.dual_format.specs.Verdict.{verdict, RefusedBy}
use Rattle.dual_format.specs.Parts.{reference_in, binary_scale_in, decimal_scale_in, width_in, cell_in, told_in}
use Rattle.dual_format.proofs.Exact.{exact}
use Rattle.calls.specs.Cuts.{cut_at}
use Rattle.calls.specs.Reasons.{Reason, Asking, BinFault}
use Rattle.calls.proofs.ByVerdict.{file_refused, file_accepted, by_file_verdict, cut_accepted, file_answers}
use Rattle.calls.proofs.Judging.{Judges, refuses, answers_exactly, never, BinAnswered, bin_judges}
use Rattle.dualpol.specs.Answers.{summary_of, open_answer, OpenPromise, cut_answer, CutPromise, bin_on, bin_answer, RightIn, BinPromise}
use Rattle.dualpol.specs.declared.DualSummary.{DualSummary}
use Rattle.std.specs.Prelude.{Err, None, Ok, Option, Result, Some}

-- ── accepted exactly, refused exactly: open ──

pub open_refused : (s : List ℕ) (r : Refusal) → OpenPromise s (Err r) → RefusedBy s r
unfolding open_answer
open_refused s r p =
    by_file_verdict dual_checks dual_format exact s Err (λ n c. Ok (summary_of s n c)) (Err r) (RefusedBy s r)
    (λ q k e. let same : q ≡ r = cc e in subst (RefusedBy s) same k)
    (λ cs k e. let z : ◌≡◌ {A = ℕ} 0 1 = cc e in absurd (omega arith))
    (sym p)

pub refused_open : (s : List ℕ) (r : Refusal) (a : Result DualSummary Refusal) → RefusedBy s r → OpenPromise s a → a ≡ Err r
unfolding open_answer
refused_open s r a h p = p ∙ file_refused dual_checks dual_format exact s _ _ r h

pub accepted_open : (s : List ℕ) (cs : List Cut) (a : Result DualSummary Refusal) → Accepted s cs → OpenPromise s a → a ≡ Ok (summary_of s (length cs) (get_or cs 0 default_cut))
unfolding open_answer
accepted_open s cs a h p = p ∙ file_accepted dual_checks dual_format exact s _ _ cs h

pub record AcceptedAs (s : List ℕ) (m : DualSummary) : Type 0 where
  pub cs : List Cut
  pub accepts : Accepted s cs
  pub summary : m ≡ summary_of s (length cs) (get_or cs 0 default_cut)

pub open_accepted : (s : List ℕ) (m : DualSummary) → OpenPromise s (Ok m) → AcceptedAs s m
unfolding open_answer
open_accepted s m p =
    by_file_verdict dual_checks dual_format exact s Err (λ n c. Ok (summary_of s n c)) (Ok m) (AcceptedAs s m)
    (λ r k e. let z : ◌≡◌ {A = ℕ} 0 1 = cc e in absurd (omega arith))
    (λ cs k e. record { cs = cs; accepts = k; summary = cc e })
    (sym p)

-- ── why the others refuse, both ways: the file's own, then 10 ──

abbrev pub CutReasons : List ℕ → ℕ → Refusal → Type 0
CutReasons s i = Reason dual_checks dual_format s i (Asking (λ c. ⊥))

cut_judges : (s : List ℕ) (c : Cut) → Judges Err (λ a. (m : Grid) × (a ≡ Ok m)) true true true (Ok (grid_at s c.section3)) ⊥ ⊥ ⊥
cut_judges s c =
    record { wrong = never; short = never; unfit = never; answered = (_, refl); not_refused = λ q h. let z : ◌≡◌ {A = ℕ} 0 1 = cc h.1 in omega arith; same = λ p q e. cc e }

cut_refuses : (s : List ℕ) (i : ℕ) (q : Refusal) → (cut_answer s i ≡ Err q) ↔ CutReasons s i q
unfolding cut_answer
cut_refuses s i = refuses dual_checks dual_format exact s i (cut_judges s)

pub cut_refused : (s : List ℕ) (i : ℕ) (q : Refusal) → CutPromise s i (Err q) → CutReasons s i q
cut_refused s i q p = (cut_refuses s i q).0 (sym p)

pub refused_cut : (s : List ℕ) (i : ℕ) (q : Refusal) (a : Result Grid Refusal) → CutReasons s i q → CutPromise s i a → a ≡ Err q
refused_cut s i q a h p = p ∙ (cut_refuses s i q).1 h

abbrev pub BinReasons : List ℕ → ℕ → ℕ → ℕ → Refusal → Type 0
BinReasons s i ray bin = Reason dual_checks dual_format s i (BinFault s ray bin)

-- a cell is answered
cell_answered : (x : Option Float) → BinAnswered (Ok x)
cell_answered None = inl refl
cell_answered (Some y) = inr (y, refl)

bin_judged : (s : List ℕ) (ray bin : ℕ) (c : Cut) → Judges Err BinAnswered (ltb ray (rays_in s c) && ltb bin (bins_in s c)) true true (Ok (told_in s c ray bin)) ((rays_in s c ≤ ray) ⊎ (bins_in s c ≤ bin)) ⊥ ⊥
bin_judged s ray bin c = bin_judges s ray bin c _ (cell_answered _)

bin_refuses : (s : List ℕ) (i ray bin : ℕ) (q : Refusal) → (bin_answer s i ray bin ≡ Err q) ↔ BinReasons s i ray bin q
unfolding bin_answer bin_on
bin_refuses s i ray bin = refuses dual_checks dual_format exact s i (bin_judged s ray bin)

pub bin_refused : (s : List ℕ) (i ray bin : ℕ) (q : Refusal) → BinPromise s i ray bin (Err q) → BinReasons s i ray bin q
bin_refused s i ray bin q p = (bin_refuses s i ray bin q).0 (sym p.answer)

pub refused_bin : (s : List ℕ) (i ray bin : ℕ) (q : Refusal) (a : Result (Option Float) Refusal) → BinReasons s i ray bin q → BinPromise s i ray bin a → a ≡ Err q
refused_bin s i ray bin q a h p = p.answer ∙ (bin_refuses s i ray bin q).1 h

-- ── and they answer exactly where no reason to refuse holds ──

module _ (s : List ℕ) where
  pub open_answered : (a : Result DualSummary Refusal) → OpenPromise s a → ((m : DualSummary) × (a ≡ Ok m)) ↔ ((q : Refusal) → RefusedBy s q → ⊥)
  unfolding open_answer
  open_answered a p =
      rw p
      (file_answers dual_checks dual_format exact s _ _ (λ x. (m : DualSummary) × (x ≡ Ok m)) (λ n c. (_, refl)) (λ q h. let z : ◌≡◌ {A = ℕ} 0 1 = cc h.1 in omega arith))

  pub cut_answered : (i : ℕ) (a : Result Grid Refusal) → CutPromise s i a → ((m : Grid) × (a ≡ Ok m)) ↔ ((q : Refusal) → CutReasons s i q → ⊥)
  unfolding cut_answer
  cut_answered i a p = rw p (answers_exactly dual_checks dual_format exact s i (cut_judges s))

  pub bin_answered : (i ray bin : ℕ) (a : Result (Option Float) Refusal) → BinPromise s i ray bin a → BinAnswered a ↔ ((q : Refusal) → BinReasons s i ray bin q → ⊥)
  unfolding bin_answer bin_on
  bin_answered i ray bin a p = rw p.answer (answers_exactly dual_checks dual_format exact s i (bin_judged s ray bin))

-- ── a cut of an accepted file ──

module _ (s : List ℕ) (cs : List Cut) (a : Accepted s cs) (i : ℕ) (lt : i < length cs) where
  abbrev pub cut : Cut
  cut = get_or cs i default_cut

  cut_is : cut_at i (verdict s) ≡ cut
  unfolding cut_at
  cut_is = ap (cut_at i) (exact.accepted_all s cs a)

  pub cut_answers : (r : Result Grid Refusal) → CutPromise s i r → r ≡ Ok (grid_at s cut.section3)
  unfolding cut_answer
  cut_answers r p = p ∙ cut_accepted dual_checks dual_format exact s _ _ i cs a lt

  module _ (ray bin : ℕ) (h : ray < rays_in s cut) (k : bin < bins_in s cut) where
    bin_told : (r : Result (Option Float) Refusal) → BinPromise s i ray bin r → r ≡ Ok (told_in s cut ray bin)
    unfolding bin_answer bin_on
    bin_told r p = p.answer ∙ cut_accepted dual_checks dual_format exact s _ _ i cs a lt ∙ rw (lt-ltb ray (rays_in s cut) h, lt-ltb bin (bins_in s cut) k)

    -- all ones is missing, and nothing else is
    pub missing_answer : (r : Result (Option Float) Refusal) → BinPromise s i ray bin r → cell_in s cut ray bin ≡ 2 ^ width_in s cut - 1 → r ≡ (Ok None)
    unfolding told_in cell_of
    missing_answer r p ones = bin_told r p ∙ rw (eq-eqb _ _ ones)

    pub answer_missing : BinPromise s i ray bin (Ok None) → cell_in s cut ray bin ≡ 2 ^ width_in s cut - 1
    unfolding told_in cell_of
    answer_missing p = go (eqb (cell_in s cut ray bin) (2 ^ width_in s cut - 1)) refl (bin_told (Ok None) p)
      where
        go : (t : Bool) → eqb (cell_in s cut ray bin) (2 ^ width_in s cut - 1) ≡ t
            → ◌≡◌ {A = Result (Option Float) Refusal} (Ok None) (Ok (cond t None (Some (scaled_value (reference_in s cut) (cell_in s cut ray bin) (binary_scale_in s cut) (decimal_scale_in s cut)))))
            → cell_in s cut ray bin ≡ 2 ^ width_in s cut - 1
        go true e x = eqb-true _ _ e
        go false e x = let z : ◌≡◌ {A = ℕ} 0 1 = cc in absurd (omega arith)

    -- any other cell is a number, and the right one: within |Y| / 2^51 of Y, and 0 where Y is 0
    pub value_answer : (y : Float) → BinPromise s i ray bin (Ok (Some y)) → Right y (reference_in s cut) (cell_in s cut ray bin) (binary_scale_in s cut) (decimal_scale_in s cut)
    value_answer y p = subst (λ (c : Cut). RightIn s ray bin c (Ok (Some y))) cut_is p.near

    pub number_answer : (r : Result (Option Float) Refusal) → BinPromise s i ray bin r → (cell_in s cut ray bin ≡ 2 ^ width_in s cut - 1 → ⊥)
        → r ≡ Ok (Some (scaled_value (reference_in s cut) (cell_in s cut ray bin) (binary_scale_in s cut) (decimal_scale_in s cut)))
    unfolding told_in cell_of
    number_answer r p other = bin_told r p ∙ rw (ne_eqb _ _ other)

-- ── each promise allows one answer ──

pub open_one : (s : List ℕ) (a b : Result DualSummary Refusal) → OpenPromise s a → OpenPromise s b → a ≡ b
open_one s a b p q = p ∙ sym q

pub cut_one : (s : List ℕ) (i : ℕ) (a b : Result Grid Refusal) → CutPromise s i a → CutPromise s i b → a ≡ b
cut_one s i a b p q = p ∙ sym q

pub bin_one : (s : List ℕ) (i ray bin : ℕ) (a b : Result (Option Float) Refusal) → BinPromise s i ray bin a → BinPromise s i ray bin b → a ≡ b
bin_one s i ray bin a b p q = p.answer ∙ sym q.answer
