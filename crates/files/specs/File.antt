-- A file as its sections one after the other, by their octets alone: FORMAT.md, "Sections". (Proved to be what `AcceptedBy` has, in proofs/ToFile.antt
-- and proofs/FromFile.antt.)
use Rattle.std.specs.Prelude.{ℕ, ◌+◌, ◌≤◌, ◌≡◌, List, [], ◌∷◌, ◌++◌, length}
use Rattle.rules.specs.Rules.{field, rules0, rules1, rules6, rules8}
use Rattle.rules.specs.Fields.{length_at, number_at}
use Rattle.sections.specs.Accepted.{Meets, Format, section_at}
use Rattle.sections.specs.declared.Cut.{Cut}

-- the total that section 0 writes
abbrev pub total_in : List ℕ → ℕ
total_in zero = field zero 0 9 8

-- the octets of a section of number n: 1-4 write how many they are, 5 the number
pub record Is (n : ℕ) (o : List ℕ) : Type 0 where
  pub number : number_at o 0 ≡ n
  pub some : 5 ≤ length o
  pub long : length_at o 0 ≡ length o

-- a cut, by the octets of its sections
pub record Parts : Type 0 where
  pub three : List ℕ
  pub four : List ℕ
  pub five : List ℕ
  pub six : List ℕ
  pub seven : List ℕ

-- the octets of its sections 4 to 7, before others
abbrev pub body_of : Parts → List ℕ → List ℕ
body_of p rest = p.four ++ (p.five ++ (p.six ++ (p.seven ++ rest)))

-- the octets of the sections of a cut at its places; its section 6 stands past its section 5
abbrev pub parts_at : List ℕ → Cut → Parts
parts_at s c =
    record {
      three = section_at s c.section3;
      four = section_at s c.section4;
      five = section_at s c.section5;
      six = section_at s (c.section5 + length_at s c.section5);
      seven = section_at s c.section7;
    }

module _ (f : Format) where
  -- a cut, in a file whose first section 4 is `first`
  pub record Whole (first : List ℕ) (p : Parts) : Type 0 where
    pub three : Is 3 p.three
    pub three_is : f.Three p.three
    pub four : Is 4 p.four
    pub four_is : f.Four first p.three p.four
    pub five : Is 5 p.five
    pub five_is : f.Five p.three p.four p.five
    pub six : Is 6 p.six
    pub six_long : length p.six ≡ 6
    pub six_is : Meets p.six 0 rules6
    pub seven : Is 7 p.seven
    pub seven_is : f.Seven p.three p.five p.seven

  -- the octets of cuts, under the section 3 last seen: a cut is 3 4 5 6 7, or 4 5 6 7 where its section 3 is that one
  pub data Cuts (first : List ℕ) : List ℕ → List Parts → List ℕ → Type 0 where
    none : {s3 : List ℕ} → Cuts first s3 [] []
    new_3 : {s3 rest : List ℕ} {p : Parts} {ps : List Parts}
        → Whole first p → Cuts first p.three ps rest → Cuts first s3 (p ∷ ps) (p.three ++ body_of p rest)
    same_3 : {rest : List ℕ} {p : Parts} {ps : List Parts}
        → Whole first p → Cuts first p.three ps rest → Cuts first p.three (p ∷ ps) (body_of p rest)

-- the section 4 of the first cut
abbrev pub first_four : List Parts → List ℕ
first_four [] = []
first_four (p ∷ ps) = p.four

-- sections 0 and 1, then these cuts, and what is left. (No section 3 has been seen before the first cut, so that it needs one.)
pub record Leading (f : Format) (s : List ℕ) (ps : List Parts) (left : List ℕ) : Type 0 where
  pub zero : List ℕ
  pub one : List ℕ
  pub cuts : List ℕ
  pub is : s ≡ zero ++ (one ++ (cuts ++ left))
  pub zero_long : length zero ≡ 16
  -- whatever its total
  pub zero_is : Meets zero 0 (rules0 (total_in zero))
  pub one_here : Is 1 one
  pub one_long : length one ≡ 21
  pub one_is : Meets one 0 rules1
  pub cuts_are : Cuts f (first_four ps) [] ps cuts

-- a file and its cuts: 0 with the file's length, 1, then 1 to 64 cuts, then 8
pub record File (f : Format) (s : List ℕ) (ps : List Parts) : Type 0 where
  pub eight : List ℕ
  pub leading : Leading f s ps eight
  pub total : total_in leading.zero ≡ length s
  pub large : length s ≤ 8388608
  pub some : 1 ≤ length ps
  pub few : length ps ≤ 64
  pub eight_long : length eight ≡ 4
  pub eight_is : Meets eight 0 rules8
