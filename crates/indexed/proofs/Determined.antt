-- Two outcomes that a promise allows are equal: "For any record at all its answer is fixed".
use Prim.Native.Nat.{ℕ}
use mathlib.Core.Path.{◌≡◌, sym, ◌∙◌, ap}
use mathlib.Core.List.{List}
use lib.IntN.{ℤ}
use Rattle.index.specs.declared.RayRecord.{RayRecord}
use Rattle.records.specs.Records.{row_after, levels_from, marks_from, values_from}
use Rattle.records.specs.Promises.{BuildPromise, LevelsFromPromise, ValuesFromPromise}
use Rattle.sections.specs.declared.Refusal.{Refusal}
use Rattle.std.specs.Prelude.{Result, ⊤}

pub build_one : {s : List ℕ} {i : ℕ} {row row' row'' : List RayRecord} {r r' : Result ⊤ Refusal}
    → BuildPromise s i row r row' → BuildPromise s i row r' row'' → (r ≡ r') × (row' ≡ row'')
build_one {s} {i} {row} p q =
    let e = p.answer ∙ sym q.answer in
    (e, p.after ∙ ap (λ (a : Result ⊤ Refusal). row_after a s i row) e ∙ sym q.after)

pub levels_from_one : {s : List ℕ} {i ray : ℕ} {rec : RayRecord} {out out' out'' : List ℕ} {r r' : Result ⊤ Refusal}
    → LevelsFromPromise s i ray rec out r out' → LevelsFromPromise s i ray rec out r' out'' → (r ≡ r') × (out' ≡ out'')
levels_from_one {s} {i} {ray} {rec} {out} p q =
    let e = p.answer ∙ sym q.answer in
    (e, p.after ∙ ap (λ (a : Result ⊤ Refusal). levels_from a s i rec out) e ∙ sym q.after)

pub values_from_one : {s : List ℕ} {i ray : ℕ} {rec : RayRecord} {marks marks' marks'' : List ℕ} {values values' values'' : List ℤ} {r r' : Result ⊤ Refusal}
    → ValuesFromPromise s i ray rec marks values r marks' values' → ValuesFromPromise s i ray rec marks values r' marks'' values''
    → (r ≡ r') × (marks' ≡ marks'') × (values' ≡ values'')
values_from_one {s} {i} {ray} {rec} {marks} {values = values} p q =
    let e = p.answer ∙ sym q.answer in (
      e,
      p.marked ∙ ap (λ (a : Result ⊤ Refusal). marks_from a s i rec marks) e ∙ sym q.marked,
      p.valued ∙ ap (λ (a : Result ⊤ Refusal). values_from a s i rec values) e ∙ sym q.valued,
    )
