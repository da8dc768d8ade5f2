-- FORMAT.md, "Sections", as it stands there: which files are accepted, with no word on the order of checks, by what a format says of its own
-- sections 3, 4, 5 and 7.
use Rattle.std.specs.Prelude.{ℕ, ◌+◌, ◌≤◌, ◌≡◌, List, [], ◌∷◌, true, length, take, drop}
use Rattle.rules.specs.Rules.{Rule, meets_all, rules0, rules1, rules6, rules8}
use Rattle.rules.specs.Fields.{length_at, number_at}
use Rattle.sections.specs.Verdict.{end_of}
use Rattle.sections.specs.declared.Cut.{Cut}

-- the named fields of the section at a place meet their rules
abbrev pub Meets : List ℕ → ℕ → List Rule → Type 0
Meets s at rules = meets_all s at rules ≡ true

-- the octets of the section at a place
abbrev pub section_at : List ℕ → ℕ → List ℕ
section_at s at = take (length_at s at) (drop at s)

-- what a format says of its own sections, by their octets
pub record Format : Type 1 where
  -- of a 3
  pub Three : (s3 : List ℕ) → Type 0
  -- of a 4 under the section 3 `s3`, in a file whose first section 4 is `first`
  pub Four : (first s3 s4 : List ℕ) → Type 0
  -- of a 5 after the sections 3 and 4
  pub Five : (s3 s4 s5 : List ℕ) → Type 0
  -- of a 7 after the sections 3 and 5
  pub Seven : (s3 s5 s7 : List ℕ) → Type 0

module _ (s : List ℕ) (end : ℕ) where
  -- a section of number n from `at` up to `next`, which lies before the last four octets
  pub record Section (n at next : ℕ) : Type 0 where
    pub number : number_at s at ≡ n
    pub some : 5 ≤ length_at s at
    pub up_to : at + length_at s at ≡ next
    pub inside : next ≤ end

  pub record Section1 (at next : ℕ) : Type 0 where
    pub here : Section 1 at next
    pub long : length_at s at ≡ 21
    pub rules : Meets s at rules1

  pub record Section6 (at next : ℕ) : Type 0 where
    pub here : Section 6 at next
    pub long : length_at s at ≡ 6
    pub rules : Meets s at rules6

module _ (k : Format) (s : List ℕ) (end : ℕ) where
  -- 4 5 6 7 under the section 3 at `s3`: a cut from its section 4 on
  pub record Body (first s3 at : ℕ) (c : Cut) (next : ℕ) : Type 0 where
    pub s5 : ℕ
    pub s6 : ℕ
    pub s7 : ℕ
    pub four : Section s end 4 at s5
    pub four_is : k.Four (section_at s first) (section_at s s3) (section_at s at)
    pub five : Section s end 5 s5 s6
    pub five_is : k.Five (section_at s s3) (section_at s at) (section_at s s5)
    pub six : Section6 s end s6 s7
    pub seven : Section s end 7 s7 next
    pub seven_is : k.Seven (section_at s s3) (section_at s s5) (section_at s s7)
    pub is : c ≡ record { section3 = s3; section4 = at; section5 = s5; section7 = s7 }

  -- the cuts that follow, under the section 3 last seen, up to the last four octets: each is 3 4 5 6 7, or 4 5 6 7
  pub data Cuts (first : ℕ) : ℕ → ℕ → List Cut → Type 0 where
    none : {s3 : ℕ} → Cuts first s3 end []
    new_3 : {s3 at b next : ℕ} {c : Cut} {cs : List Cut}
        → Section s end 3 at b → k.Three (section_at s at) → Body first at b c next → Cuts first at next cs → Cuts first s3 at (c ∷ cs)
    same_3 : {s3 at next : ℕ} {c : Cut} {cs : List Cut}
        → Body first s3 at c next → Cuts first s3 next cs → Cuts first s3 at (c ∷ cs)

  -- 1, then 1 to 64 cuts, then 8; the first cut needs a 3
  pub record AfterZero (cs : List Cut) : Type 0 where
    pub s3 : ℕ
    pub s4 : ℕ
    pub next : ℕ
    pub cut : Cut
    pub later : List Cut
    pub one : Section1 s end 16 s3
    pub three : Section s end 3 s3 s4
    pub three_is : k.Three (section_at s s3)
    pub body : Body s4 s3 s4 cut next
    pub cuts : Cuts s4 s3 next later
    pub few : length cs ≤ 64
    pub eight : Meets s end rules8
    pub are : cs ≡ cut ∷ later

-- an accepted file and its cuts: section 0, and what comes past it, up to the last four octets
pub record AcceptedBy (k : Format) (s : List ℕ) (cs : List Cut) : Type 0 where
  pub small : 20 ≤ length s
  pub large : length s ≤ 8388608
  pub zero : Meets s 0 (rules0 (length s))
  pub past : AfterZero k s (end_of s) cs
