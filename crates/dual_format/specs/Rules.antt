-- FORMAT.md, "Dual-polarisation files": the rules on the named fields of sections 3, 4 and 5, in its order and with its numbers.
use Rattle.std.specs.Prelude.{ℕ, List, [], ◌∷◌, ◌++◌}
use Rattle.rules.specs.Rules.{Rule, within, either, is, grid_rules, mode_rule}

-- 3: octets 6 to 34 as in the base format, with template 50121; the flags Fa and Fe, 53 and 54, are 0 or 1 (35-38, Dstart, has no rule)
abbrev pub flag_rules : List Rule
flag_rules = within 53 1 0 1 ∷ within 54 1 0 1 ∷ []

unfoldable pub rules3 : List Rule
rules3 = grid_rules 50121 ++ flag_rules

-- its scan mode: PPI only, octet 39 is 0 and 40 missing
unfoldable pub scan_rules : List Rule
scan_rules = is 39 1 0 ∷ is 40 1 255 ∷ []

-- 4, where the first cut's section 4 has `parameter` in octet 11 and `site` in octets 28-29: 6-7 is 0; 8-9 is 51123; 10 is 15; 12 is 8; 13 is 1;
-- 32 is 13; 42 is 0, 1, 2 or 255; the flags Fp and Ft, 56 and 57, are 0 or 1; 11 and 28-29 as in the first cut
unfoldable pub rules4 : ℕ → ℕ → List Rule
rules4 parameter site =
    is 6 2 0
    ∷ is 8 2 51123
    ∷ is 10 1 15
    ∷ is 12 1 8
    ∷ is 13 1 1
    ∷ is 32 1 13
    ∷ mode_rule 42
    ∷ within 56 1 0 1
    ∷ within 57 1 0 1
    ∷ is 11 1 parameter
    ∷ is 28 2 site
    ∷ []

-- 5: 10-11 is 0; 16-17 E, 0 to 2; 18-19 D, 0 to 4
unfoldable pub rules5 : List Rule
rules5 = is 10 2 0 ∷ within 16 2 0 2 ∷ within 18 2 0 4 ∷ []

-- its width: 8 or 16 bits
abbrev pub width_rule : Rule
width_rule = either (is 20 1 8) (is 20 1 16)
