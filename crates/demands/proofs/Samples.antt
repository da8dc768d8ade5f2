-- What the promises of the calls say of small inputs: each follows from the promise alone, so no program that keeps it can answer otherwise. A promise too weak to fix an answer,
-- or lent memory, could not prove these.
use mathlib.Core.Path.{◌≡◌, ap, ◌∙◌}
use mathlib.Core.List.{List, [], ◌∷◌}
use Prim.Native.Nat.{ℕ}
use Rattle.sections.specs.Refusal.{refuse}
use Rattle.sections.specs.Verdict.{sized, verdict_by}
use Rattle.sections.specs.declared.Why.TheVariants.{FileSize}
use Rattle.calls.specs.Cuts.{on_file, on_cut}
use Rattle.polar.specs.Opening.{open_answer}
use Rattle.polar.specs.Rays.{ray_answer, levels_after}
use Rattle.polar.specs.Promises.{OpenPromise, LevelsPromise}
use Rattle.runs.specs.Run.{digit_sum, levels, gives, passed_from, fault_at}
use Rattle.bare.specs.Read.{read_answer, read_out, ReadPromise, check_answer, CheckPromise}
use Rattle.bare.specs.declared.CheckRefusal.TheVariants as C
use Rattle.bare.specs.declared.ReadRefusal.TheVariants as F
use lib.ListN.{replicate}
use Rattle.packing.specs.Write.{greatest, digits_up_to, digits_of, code, on_from, written, packed}
use Rattle.bare.specs.Write.{write_answer, write_out, WritePromise}
use Rattle.bare.specs.declared.WriteRefusal.TheVariants as G
use Rattle.bare.specs.declared.CheckRefusal.{CheckRefusal}
use Rattle.bare.specs.declared.ReadRefusal.{ReadRefusal}
use Rattle.bare.specs.declared.WriteRefusal.{WriteRefusal}
use Rattle.bare.specs.declared.Wrote.{Wrote}
use Rattle.polar.specs.declared.Summary.{Summary}
use Rattle.sections.specs.declared.Refusal.{Refusal}
use Rattle.std.specs.Prelude.{Err, Ok, Result, ⊤}

-- an empty file is refused by 1, at place 0
pub empty_file : (r : Result Summary Refusal) → OpenPromise [] r → r ≡ Err (refuse FileSize 0)
unfolding open_answer on_file verdict_by sized
empty_file r p = p.answer

-- a ray of an empty file is refused, and the lent octets are what they were
pub empty_file_ray : (r : Result ⊤ Refusal) (out : List ℕ) → LevelsPromise [] 0 0 (8 ∷ 9 ∷ []) r out → out ≡ 8 ∷ 9 ∷ []
unfolding ray_answer levels_after on_cut verdict_by sized
empty_file_ray r out p = p.after ∙ ap (λ (x : Result ⊤ Refusal). levels_after x [] 0 0 (8 ∷ 9 ∷ [])) p.answer

-- V = 10: `11 3` opens above V, and is refused by 8 at its first octet
pub opens_above_v : (r : Result ⊤ ReadRefusal) (out : List ℕ) → ReadPromise 10 1 (11 ∷ 3 ∷ []) (0 ∷ []) r out → r ≡ Err (F.Data 0)
unfolding read_answer gives fault_at
opens_above_v r out p = p.answered

-- V = 130: of `0 131 131 132` for one bin the last octet is at fault, whose digit passes the bins: not the run's level, no zero digit, nor one past it
pub digit_at_fault : (r : Result ⊤ ReadRefusal) (out : List ℕ) → ReadPromise 130 1 (0 ∷ 131 ∷ 131 ∷ 132 ∷ []) (0 ∷ []) r out → r ≡ Err (F.Data 3)
unfolding read_answer gives levels digit_sum passed_from fault_at
digit_at_fault r out p = p.answered

-- and run check says the same
pub digit_at_fault_checked : (r : Result ⊤ CheckRefusal) → CheckPromise 130 1 (0 ∷ 131 ∷ 131 ∷ 132 ∷ []) r → r ≡ Err (C.Data 3)
unfolding check_answer gives levels digit_sum passed_from fault_at
digit_at_fault_checked r p = p.answered

-- V = 10: of `3 4 11 5` for two bins the level 5 is at fault
pub level_at_fault : (r : Result ⊤ ReadRefusal) (out : List ℕ) → ReadPromise 10 2 (3 ∷ 4 ∷ 11 ∷ 5 ∷ []) (0 ∷ 0 ∷ []) r out → r ≡ Err (F.Data 3)
unfolding read_answer gives levels digit_sum passed_from fault_at
level_at_fault r out p = p.answered

-- V = 10: `3 11` gives one bin where two are wanted: the fault is one past the data, not its last octet
pub too_few_at_end : (r : Result ⊤ ReadRefusal) (out : List ℕ) → ReadPromise 10 2 (3 ∷ 11 ∷ []) (0 ∷ 0 ∷ []) r out → r ≡ Err (F.Data 2)
unfolding read_answer gives levels digit_sum passed_from fault_at
too_few_at_end r out p = p.answered

-- one octet where no bin is wanted, and none where one is
pub no_bin_wanted : (r : Result ⊤ CheckRefusal) → CheckPromise 10 0 (3 ∷ []) r → r ≡ Err (C.Data 0)
unfolding check_answer gives levels digit_sum passed_from fault_at
no_bin_wanted r p = p.answered

pub no_octet : (r : Result ⊤ CheckRefusal) → CheckPromise 10 1 [] r → r ≡ Err (C.Data 0)
unfolding check_answer gives levels digit_sum passed_from fault_at
no_octet r p = p.answered

-- V = 10: `3 11` is one 3. It goes to the front, and the octet past it is what it was
pub one_three : (r : Result ⊤ ReadRefusal) (out : List ℕ) → ReadPromise 10 1 (3 ∷ 11 ∷ []) (9 ∷ 9 ∷ []) r out → out ≡ 3 ∷ 9 ∷ []
unfolding read_answer gives levels digit_sum
one_three r out p = p.held ∙ ap (λ (x : Result ⊤ ReadRefusal). read_out x (levels 10 (3 ∷ 11 ∷ [])) (9 ∷ 9 ∷ [])) p.answered

-- V over 253 is refused by 12, before 10 and 11
pub v_254 : (r : Result ⊤ ReadRefusal) (out : List ℕ) → ReadPromise 254 2097153 (3 ∷ []) (0 ∷ []) r out → r ≡ Err F.V
unfolding read_answer
v_254 r out p = p.answered

-- n over 2,097,152 is refused by 10, before 11
pub too_many_wanted : (r : Result ⊤ ReadRefusal) (out : List ℕ) → ReadPromise 253 2097153 (3 ∷ []) (0 ∷ []) r out → r ≡ Err F.Argument
unfolding read_answer
too_many_wanted r out p = p.answered

-- no levels give no octets, under V = 0
pub no_levels : (r : Result Wrote WriteRefusal) (out : List ℕ) → WritePromise [] (0 ∷ []) r out → r ≡ Ok (record { v = 0; len = 0 })
unfolding write_answer greatest written
no_levels r out p = p.answered

-- V = 252, base 3: `7 254 253` is two 7s, the first digit being the least. (With the most significant first it would be four.)
pub least_digit_first : (r : Result ⊤ ReadRefusal) (out : List ℕ) → ReadPromise 252 2 (7 ∷ 254 ∷ 253 ∷ []) (0 ∷ 0 ∷ []) r out → (r ≡ (Ok tt)) × (out ≡ 7 ∷ 7 ∷ [])
unfolding read_answer gives levels digit_sum
least_digit_first r out p = (p.answered, p.held ∙ ap (λ (x : Result ⊤ ReadRefusal). read_out x (levels 252 (7 ∷ 254 ∷ 253 ∷ [])) (0 ∷ 0 ∷ [])) p.answered)

-- ten 252s give `252 253 253 254`: one run, under the greatest level, the least digit first, and the last digit not zero
pub ten_252 : (r : Result Wrote WriteRefusal) (out : List ℕ) → WritePromise (replicate 10 252) (0 ∷ 0 ∷ 0 ∷ 0 ∷ 9 ∷ []) r out → (r ≡ Ok (record { v = 252; len = 4 })) × (out ≡ 252 ∷ 253 ∷ 253 ∷ 254 ∷ 9 ∷ [])
unfolding write_answer greatest written on_from code digits_of digits_up_to
ten_252 r out p = (p.answered, p.held ∙ ap (λ (x : Result Wrote WriteRefusal). write_out x (packed (replicate 10 252)) (0 ∷ 0 ∷ 0 ∷ 0 ∷ 9 ∷ [])) p.answered)

-- level 253 is refused by 10
pub level_253 : (r : Result Wrote WriteRefusal) (out : List ℕ) → WritePromise (253 ∷ []) (0 ∷ []) r out → r ≡ Err G.Argument
unfolding write_answer greatest
level_253 r out p = p.answered
