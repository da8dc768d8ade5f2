-- FORMAT.md, "The lister": the text of the list, line by line. A text is a list of octets.
use Rattle.std.specs.Prelude.{ℕ, zero, suc, ◌+◌, ◌/◌, ◌%◌, cond, List, [], ◌∷◌, ◌++◌, ltb, None, Option, Some}
use Rattle.kinds.specs.KindTable.{kind_by, kind_word}
use Rattle.stretches.specs.Stretch.{Entry}
use Rattle.lent.specs.Ascii.{ascii}
use Rattle.kinds.specs.declared.Kind.{Kind}

-- the octet of a digit
abbrev pub digit : ℕ → ℕ
digit d = 48 + d

-- a number in decimal with no leading zeros: a digit alone, or the digits of n / 10 and then the last. A number has fewer digits than n + 1: the first
-- argument is never used up
unfoldable pub spelled : ℕ → ℕ → List ℕ
spelled zero n = []
spelled (suc f) n = cond (ltb n 10) (digit n ∷ []) (spelled f (n / 10) ++ (digit (n % 10) ∷ []))

unfoldable pub decimal : ℕ → List ℕ
decimal n = spelled (suc n) n

-- what stands for a kind in the line of an entry: its word. A number that is no kind's has none
abbrev pub kind_text : Option Kind → List ℕ
kind_text (Some k) = ascii " " ++ kind_word k
kind_text None = []

abbrev pub newline : List ℕ
newline = ascii "\n"

-- `0 2 3 over`: ray, first bin, length, kind
unfoldable pub entry_line : Entry → List ℕ
entry_line e = decimal e.ray ++ ((ascii " " ++ decimal e.first) ++ ((ascii " " ++ decimal e.len) ++ (kind_text (kind_by e.kind) ++ newline)))

unfoldable pub entry_lines : List Entry → List ℕ
entry_lines [] = []
entry_lines (e ∷ es) = entry_line e ++ entry_lines es

-- `cut 0 product 1 bins 5 rays 2 threshold 4000`
unfoldable pub head_line : ℕ → ℕ → ℕ → ℕ → ℕ → List ℕ
head_line cut product bins rays t =
    (ascii "cut " ++ decimal cut)
    ++ ((ascii " product " ++ decimal product)
    ++ ((ascii " bins " ++ decimal bins) ++ ((ascii " rays " ++ decimal rays) ++ ((ascii " threshold " ++ decimal t) ++ newline))))

-- `refused 3 at 37`
unfoldable pub refused_line : ℕ → ℕ → List ℕ
refused_line number place = (ascii "refused " ++ decimal number) ++ ((ascii " at " ++ decimal place) ++ newline)

-- `end 5`
unfoldable pub end_line : ℕ → List ℕ
end_line total = (ascii "end " ++ decimal total) ++ newline
