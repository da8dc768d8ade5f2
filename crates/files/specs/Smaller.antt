-- FORMAT.md, "To come", smaller file and rescue, over octets: files made of cuts that stood in another.
use Rattle.std.specs.Prelude.{ℕ, ◌+◌, ◌/◌, ◌%◌, List, [], ◌∷◌, ◌++◌, cond, eqb, length, take}
use Rattle.octets.specs.Octets.{in_octets, same}
use Rattle.files.specs.File.{Parts, body_of}

-- "a 64-bit choice of cuts (bit i for cut i)": those cuts, in order
abbrev pub chosen : {A : Type 0} → ℕ → List A → List A
chosen w [] = []
chosen w (p ∷ ps) = cond (eqb (w % 2) 1) (p ∷ chosen (w / 2) ps) (chosen (w / 2) ps)

-- "sections 4 to 7 copied octet for octet, section 3 written for the first and wherever it differs from the last one written"
abbrev pub cuts_after : List ℕ → List Parts → List ℕ
cuts_after s3 [] = []
cuts_after s3 (p ∷ ps) =
    cond (same s3 p.three) (body_of p (cuts_after p.three ps)) (p.three ++ body_of p (cuts_after p.three ps))

-- "section 0 with its new total"
abbrev pub totalled : List ℕ → ℕ → List ℕ
totalled s0 n = take 8 s0 ++ in_octets 8 n

-- `7777`
abbrev pub sevens : List ℕ
sevens = 0x37 ∷ 0x37 ∷ 0x37 ∷ 0x37 ∷ []

-- section 0 with the new total, section 1, cuts, then `7777`
abbrev pub assembled : List ℕ → List ℕ → List ℕ → List ℕ
assembled s0 one cuts = totalled s0 (16 + (length one + (length cuts + 4))) ++ (one ++ (cuts ++ sevens))
