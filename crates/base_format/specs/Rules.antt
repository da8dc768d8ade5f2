-- FORMAT.md, "Sections": the rules on the named fields of sections 3, 4 and 5, in its order and with its numbers.
use Rattle.std.specs.Prelude.{ℕ, List, [], ◌∷◌, ◌++◌}
use Rattle.rules.specs.Rules.{Rule, within, magnitude, either, is, grid_rules, mode_rule}

-- past octet 34: 39 is 0; 40-41 start azimuth (35-38, Dstart, has no rule)
abbrev pub scan_rules : List Rule
scan_rules = is 39 1 0 ∷ within 40 2 0 36000 ∷ []

-- 3: both, with template 50120
unfoldable pub rules3 : List Rule
rules3 = grid_rules 50120 ++ scan_rules

-- 4, where the first cut's section 4 has `product` in octet 11 and `site` in octets 29-30: 6-7 is 0; 8-9 is 51022; 10 is 15; 11 is 1 or 2;
-- 12 is 8; 13 is 1; 14 is 13; 38 is 0, 1, 2 or 255; 42-43 elevation constant, magnitude at most 9000, or missing; 11 and 29-30 as in the first cut
unfoldable pub rules4 : ℕ → ℕ → List Rule
rules4 product site =
    is 6 2 0
    ∷ is 8 2 51022
    ∷ is 10 1 15
    ∷ within 11 1 1 2
    ∷ is 12 1 8
    ∷ is 13 1 1
    ∷ is 14 1 13
    ∷ mode_rule 38
    ∷ either (magnitude 42 2 9000) (is 42 2 0xFFFF)
    ∷ is 11 1 product
    ∷ is 29 2 site
    ∷ []

-- 5, of a product with `m` levels: 10-11 is 200; 12 is 8; 13-14 V, at most M; 15-16 M; 17 is 2
unfoldable pub rules5 : ℕ → List Rule
rules5 m = is 10 2 200 ∷ is 12 1 8 ∷ within 13 2 0 m ∷ is 15 2 m ∷ is 17 1 2 ∷ []
