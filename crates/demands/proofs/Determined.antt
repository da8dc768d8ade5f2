-- Two outcomes that a promise allows are equal: the answer is a function of what was lent, and lent memory one of the answer.
use Prim.Native.Nat.{ℕ}
use mathlib.Core.Path.{◌≡◌, sym, ◌∙◌, ap}
use mathlib.Core.List.{List}
use lib.IntN.{ℤ}
use Rattle.polar.specs.Rays.{levels_after, marks_after, values_after}
use Rattle.polar.specs.Stretching.{words_after}
use Rattle.polar.specs.Promises.{OpenPromise, CutPromise, LevelsPromise, ValuesPromise, BinPromise, StretchesPromise}
use Rattle.polar.specs.declared.CutInfo.{CutInfo}
use Rattle.polar.specs.declared.Summary.{Summary}
use Rattle.sections.specs.declared.Refusal.{Refusal}
use Rattle.stretches.specs.declared.Listing.{Listing}
use Rattle.std.specs.Prelude.{Option, Result, ⊤, Float}

pub open_one : {s : List ℕ} {r r' : Result Summary Refusal} → OpenPromise s r → OpenPromise s r' → r ≡ r'
open_one p q = p.answer ∙ sym q.answer

pub cut_one : {s : List ℕ} {i : ℕ} {r r' : Result CutInfo Refusal} → CutPromise s i r → CutPromise s i r' → r ≡ r'
cut_one p q = p.answer ∙ sym q.answer

pub levels_one : {s : List ℕ} {i ray : ℕ} {out out' out'' : List ℕ} {r r' : Result ⊤ Refusal}
    → LevelsPromise s i ray out r out' → LevelsPromise s i ray out r' out'' → (r ≡ r') × (out' ≡ out'')
levels_one {s} {i} {ray} {out} p q =
    let e = p.answer ∙ sym q.answer in
    (e, p.after ∙ ap (λ (a : Result ⊤ Refusal). levels_after a s i ray out) e ∙ sym q.after)

pub values_one : {s : List ℕ} {i ray : ℕ} {marks marks' marks'' : List ℕ} {values values' values'' : List ℤ} {r r' : Result ⊤ Refusal}
    → ValuesPromise s i ray marks values r marks' values' → ValuesPromise s i ray marks values r' marks'' values''
    → (r ≡ r') × (marks' ≡ marks'') × (values' ≡ values'')
values_one {s} {i} {ray} {marks} {values = values} p q =
    let e = p.answer ∙ sym q.answer in (
      e,
      p.marked ∙ ap (λ (a : Result ⊤ Refusal). marks_after a s i ray marks) e ∙ sym q.marked,
      p.valued ∙ ap (λ (a : Result ⊤ Refusal). values_after a s i ray values) e ∙ sym q.valued,
    )

pub bin_one : {s : List ℕ} {i ray bin : ℕ} {r r' : Result (Option Float) Refusal} → BinPromise s i ray bin r → BinPromise s i ray bin r' → r ≡ r'
bin_one p q = p.answer ∙ sym q.answer

pub stretches_one : {s : List ℕ} {i : ℕ} {t : ℤ} {ray bin : ℕ} {words words' words'' : List ℕ} {r r' : Result Listing Refusal}
    → StretchesPromise s i t ray bin words r words' → StretchesPromise s i t ray bin words r' words'' → (r ≡ r') × (words' ≡ words'')
stretches_one {s} {i} {t} {ray} {bin} {words} p q =
    let e = p.answer ∙ sym q.answer in
    (e, p.after ∙ ap (λ (a : Result Listing Refusal). words_after a s i t ray bin words) e ∙ sym q.after)
