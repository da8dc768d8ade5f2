-- What the walk answers.
use Rattle.std.specs.Prelude.{ℕ, length, get_or, Err, Ok, Result}
use Rattle.sections.specs.Verdict.{Verdict, accepted, refused, default_cut}
use Rattle.sections.specs.declared.Refusal.{Refusal}
use Rattle.walks.specs.declared.Found.{Found}

-- the number of cuts and the places of cut `want` (zeros where there is no such cut), or the refusal
unfoldable pub answer_for : ℕ → Verdict → Result Found Refusal
answer_for want (accepted cs) = Ok (record { cuts = length cs; cut = get_or cs want default_cut })
answer_for want (refused r) = Err r
