-- A line is put piece by piece: the pieces of specs/Text.antt, in order.
use Prim.Native.Nat.{ℕ, zero, suc, ◌+◌, ◌-◌, ◌≤◌, ◌<◌}
use mathlib.Core.Path.{◌≡◌, refl, sym, ap, ◌∙◌}
use mathlib.Core.List.{List, [], ◌∷◌, ◌++◌, append_assoc}
use native.Mathlib.Omega.{arith}
use native.Mathlib.Numerals.{add-one}
use lib.ListN.{length, length-append}
use Rattle.lent.specs.Lent.{placed}
use Rattle.kinds.specs.KindTable.{kind_by}
use Rattle.stretches.specs.Stretch.{Entry}
use Rattle.lent.specs.Put.{Put}
use Rattle.lent.specs.Ascii.{ascii}
use Rattle.lines.specs.Text.{decimal, newline, kind_text, entry_line, entry_lines, head_line, refused_line, end_line}
use Rattle.lines.specs.Words.{entry_in, entries_in}
use Rattle.lines.proofs.Decimal.{decimal_some}
use Rattle.lent.proofs.Putting.{placed_append, then, named}

-- the pieces of an entry's line, where the numbers are those of the entry
pub entry_put : (x : Entry) {d e f g h : List ℕ} {at a b c r p q m k : ℕ}
    → Put d at (decimal p) e a → Put e a (ascii " " ++ decimal q) f b → Put f b (ascii " " ++ decimal m) g c → Put g c (kind_text (kind_by k) ++ newline) h r
    → (p ≡ x.ray) × (q ≡ x.first) × (m ≡ x.len) × (k ≡ x.kind)
    → Put d at (entry_line x) h r
unfolding entry_line
entry_put x one two three four is =
    named (λ i. decimal (is.0 i) ++ ((ascii " " ++ decimal (is.1 i)) ++ ((ascii " " ++ decimal (is.2 i)) ++ (kind_text (kind_by (is.3 i)) ++ newline))))
    (then one (then two (then three four)))

-- ---- line after line
pub entries_more : (ws : List ℕ) (i n : ℕ) → 0 < n → entry_line (entry_in ws i) ++ entry_lines (entries_in ws (i + 1) (n - 1)) ≡ entry_lines (entries_in ws i n)
unfolding entries_in entry_lines
entries_more ws i zero h = absurd (omega arith)
entries_more ws i (suc n) h = let less : suc n - 1 ≡ n = omega arith in rw (add-one i, less)

pub entries_none : (ws : List ℕ) (i n : ℕ) → n ≡ 0 → entry_lines (entries_in ws i n) ≡ []
unfolding entries_in entry_lines
entries_none ws i n h = rw h

-- what the rest of the lines would make of the octets is the same before a line is put and after it
pub more_put : (ws d e : List ℕ) (at a i n : ℕ) → 0 < n → Put d at (entry_line (entry_in ws i)) e a
    → (placed e a (entry_lines (entries_in ws (i + 1) (n - 1))) ≡ placed d at (entry_lines (entries_in ws i n)))
    × (a + length (entry_lines (entries_in ws (i + 1) (n - 1))) ≡ at + length (entry_lines (entries_in ws i n)))
more_put ws d e at a i n some x =
    let line : List ℕ = entry_line (entry_in ws i) in
    let rest : List ℕ = entry_lines (entries_in ws (i + 1) (n - 1)) in
    let whole = entries_more ws i n some in
    let p = x.past in
    let room = x.inside in (
      (λ j. placed (x.there j) (x.past j) rest) ∙ placed_append d at line rest (omega arith) ∙ ap (λ (l : List ℕ). placed d at l) whole,
      omega (arith, ap length whole, length-append line rest),
    )

pub lines_append : (a b : List Entry) → entry_lines (a ++ b) ≡ entry_lines a ++ entry_lines b
unfolding entry_lines
lines_append [] b = refl
lines_append (e ∷ a) b = ap (λ (l : List ℕ). entry_line e ++ l) (lines_append a b) ∙ sym (append_assoc (entry_line e) (entry_lines a) (entry_lines b))

-- ---- no line is empty
pub entry_some : (e : Entry) → 0 < length (entry_line e)
unfolding entry_line
entry_some e =
    let rest : List ℕ = (ascii " " ++ decimal e.first) ++ ((ascii " " ++ decimal e.len) ++ (kind_text (kind_by e.kind) ++ newline)) in
    omega (arith, decimal_some e.ray, length-append (decimal e.ray) rest)

pub lines_some : (l : List Entry) → length l ≤ length (entry_lines l)
unfolding entry_lines
lines_some [] = omega arith
lines_some (e ∷ l) = omega (arith, entry_some e, lines_some l, length-append (entry_line e) (entry_lines l))

pub head_some : (i p b r t : ℕ) → 0 < length (head_line i p b r t)
unfolding head_line
head_some i p b r t = omega arith

pub refused_some : (n p : ℕ) → 0 < length (refused_line n p)
unfolding refused_line
refused_some n p = omega arith

pub end_some : (n : ℕ) → 0 < length (end_line n)
unfolding end_line
end_some n = omega arith
