-- Each promise to C leaves one outcome: two outcomes that it allows are equal, since each of its parts is an equation.
use Prim.Native.Nat.{ℕ}
use mathlib.Core.Path.{◌≡◌, sym, ◌∙◌}
use mathlib.Core.List.{List}
use lib.IntN.{ℤ}
use lib.Ieee.{Float}
use Rattle.index.specs.declared.RayRecord.{RayRecord}
use Rattle.polar_c.specs.Runs.{RunCheckCall, RunReadCall, RunWriteCall}
use Rattle.polar_c.specs.Records.{BuildIndexCall, RayLevelsFromCall, RayValuesFromCall}
use Rattle.polar_c.specs.Files.{Answered, BinAnswered, RayLevelsCall, RayValuesCall, StretchesCall}
use Rattle.sections.specs.declared.Refusal.{Refusal}
use Rattle.std.specs.Prelude.{Option, Result}

pub run_check_one : {v n : ℕ} {octets : List ℕ} {x y : ℕ} → RunCheckCall v n octets x → RunCheckCall v n octets y → x ≡ y
run_check_one p q = p.returned ∙ sym q.returned

pub run_read_one : {v n : ℕ} {octets lent : List ℕ} {x y : ℕ} {l l' : List ℕ} → RunReadCall v n octets lent x l → RunReadCall v n octets lent y l' → (x ≡ y) × (l ≡ l')
run_read_one p q = (p.returned ∙ sym q.returned, p.held ∙ sym q.held)

pub run_write_one : {row lent answer : List ℕ} {x y : ℕ} {l l' w w' : List ℕ} →
    RunWriteCall row lent answer x l w → RunWriteCall row lent answer y l' w' → (x ≡ y) × (l ≡ l') × (w ≡ w')
run_write_one p q = (p.returned ∙ sym q.returned, p.held ∙ sym q.held, p.answered ∙ sym q.answered)

-- of open and cut, in both formats
pub answered_one : {R W : Type 0} {return_of : R → ℕ} {words_of : R → List W → List W} {r : R} {answer : List W} {x y : ℕ} {w w' : List W} →
    Answered return_of words_of r answer x w → Answered return_of words_of r answer y w' → (x ≡ y) × (w ≡ w')
answered_one p q = (p.returned ∙ sym q.returned, p.answered ∙ sym q.answered)

pub ray_levels_one : {file : List ℕ} {cut ray : ℕ} {lent : List ℕ} {x y : ℕ} {l l' : List ℕ} →
    RayLevelsCall file cut ray lent x l → RayLevelsCall file cut ray lent y l' → (x ≡ y) × (l ≡ l')
ray_levels_one p q = (p.returned ∙ sym q.returned, p.held ∙ sym q.held)

pub ray_values_one : {file : List ℕ} {cut ray : ℕ} {marks : List ℕ} {values : List ℤ} {x y : ℕ} {m m' : List ℕ} {v v' : List ℤ} →
    RayValuesCall file cut ray marks values x m v → RayValuesCall file cut ray marks values y m' v' → (x ≡ y) × (m ≡ m') × (v ≡ v')
ray_values_one p q = (p.returned ∙ sym q.returned, p.marked ∙ sym q.marked, p.held ∙ sym q.held)

-- of bin value, in both formats (a dual-polarisation file's promise has it as its part `outcome`)
pub bin_answered_one : {r : Result (Option Float) Refusal} {value : Float} {answer : List ℕ} {x y : ℕ} {v v' : Float} {w w' : List ℕ} →
    BinAnswered r value answer x v w → BinAnswered r value answer y v' w' → (x ≡ y) × (v ≡ v') × (w ≡ w')
bin_answered_one p q = (p.returned ∙ sym q.returned, p.held ∙ sym q.held, p.answered ∙ sym q.answered)

-- of both stretch calls: the house form is the one at the house threshold
pub stretches_one : {file : List ℕ} {cut : ℕ} {t : ℤ} {ray bin : ℕ} {lent answer : List ℕ} {x y : ℕ} {l l' w w' : List ℕ} →
    StretchesCall file cut t ray bin lent answer x l w → StretchesCall file cut t ray bin lent answer y l' w' → (x ≡ y) × (l ≡ l') × (w ≡ w')
stretches_one p q = (p.returned ∙ sym q.returned, p.held ∙ sym q.held, p.answered ∙ sym q.answered)

-- of index building, and of both ray calls by a record
pub build_index_one : {file : List ℕ} {cut : ℕ} {lent : List RayRecord} {x y : ℕ} {l l' : List RayRecord} →
    BuildIndexCall file cut lent x l → BuildIndexCall file cut lent y l' → (x ≡ y) × (l ≡ l')
build_index_one p q = (p.returned ∙ sym q.returned, p.held ∙ sym q.held)

pub ray_levels_from_one : {file : List ℕ} {cut ray offset before : ℕ} {lent : List ℕ} {x y : ℕ} {l l' : List ℕ} →
    RayLevelsFromCall file cut ray offset before lent x l → RayLevelsFromCall file cut ray offset before lent y l' → (x ≡ y) × (l ≡ l')
ray_levels_from_one p q = (p.returned ∙ sym q.returned, p.held ∙ sym q.held)

pub ray_values_from_one : {file : List ℕ} {cut ray offset before : ℕ} {marks : List ℕ} {values : List ℤ} {x y : ℕ} {m m' : List ℕ} {v v' : List ℤ} →
    RayValuesFromCall file cut ray offset before marks values x m v → RayValuesFromCall file cut ray offset before marks values y m' v'
    → (x ≡ y) × (m ≡ m') × (v ≡ v')
ray_values_from_one p q = (p.returned ∙ sym q.returned, p.marked ∙ sym q.marked, p.held ∙ sym q.held)
