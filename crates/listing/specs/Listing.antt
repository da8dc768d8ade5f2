-- FORMAT.md, "The lister": the whole text of a file. "Standard input, at most 65,536 octets (more prints `refused 1 at 0`); every cut, house
-- threshold. A refusal prints `refused N at P`."
use Rattle.std.specs.Prelude.{ℕ, suc, ◌+◌, cond, List, [], ◌∷◌, ◌++◌, ltb, length, pos}
use Rattle.sections.specs.Parts.{bins_in, rays_in}
use Rattle.base_format.specs.Parts.{product_in, product_number}
use Rattle.sections.specs.Refusal.{number_of}
use Rattle.sections.specs.Verdict.{Verdict, accepted, refused}
use Rattle.base_format.specs.Verdict.{verdict}
use Rattle.sections.specs.declared.Cut.{Cut}
use Rattle.stretches.specs.Stretch.{Entry}
use Rattle.stretches.specs.Call.{house_threshold}
use Rattle.cuts.specs.Bins.{stretches_in}
use Rattle.lines.specs.Text.{entry_lines, head_line, refused_line, end_line}

-- the first line of cut i: the product as the file numbers it
unfoldable pub head_of : List ℕ → ℕ → Cut → List ℕ
head_of s i c = head_line i (product_number (product_in s c)) (bins_in s c) (rays_in s c) house_threshold

-- its stretches from a point on, at the house threshold
abbrev pub house_list : List ℕ → Cut → ℕ → ℕ → List Entry
house_list s c ray bin = stretches_in s c (pos house_threshold) ray bin

-- the lines of cuts, numbered from i on
unfoldable pub cut_lines : List ℕ → ℕ → List Cut → List ℕ
cut_lines s i [] = []
cut_lines s i (c ∷ cs) = head_of s i c ++ (entry_lines (house_list s c 0 0) ++ cut_lines s (suc i) cs)

-- "`end` counts all entries of all cuts"
unfoldable pub entry_count : List ℕ → List Cut → ℕ
entry_count s [] = 0
entry_count s (c ∷ cs) = length (house_list s c 0 0) + entry_count s cs

unfoldable pub verdict_text : List ℕ → Verdict → List ℕ
verdict_text s (accepted cs) = cut_lines s 0 cs ++ end_line (entry_count s cs)
verdict_text s (refused r) = refused_line (number_of r.why) r.place

-- the whole text
unfoldable pub text_of : List ℕ → List ℕ
text_of s = cond (ltb 65536 (length s)) (refused_line 1 0) (verdict_text s (verdict s))
