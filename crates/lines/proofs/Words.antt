-- Words that hold entries, read back: the entries that were listed into them.
use Prim.Native.Nat.{ℕ, zero, suc, ◌+◌, ◌-◌, ◌*◌, ◌/◌, ◌≤◌}
use mathlib.Core.Path.{◌≡◌, refl, sym, ap, ◌∙◌}
use mathlib.Core.List.{List, [], ◌∷◌, ◌++◌, append_assoc}
use native.Mathlib.Nat.{add-zero}
use native.Mathlib.Omega.{arith}
use lib.ListN.{length, get_or, take, drop, length-append, length-take}
use lib.Seq.{sets-eq, get_or-append-add}
use Rattle.stretches.specs.Stretch.{Entry, per_entry, words, words_of}
use Rattle.stretches.specs.Call.{fitting, out_of}
use Rattle.stretches.proofs.Laws.{length_words}
use Rattle.lines.specs.Words.{entry_in, entries_in}

-- the words of an entry, read back
entry_back : (e : Entry) (A B : List ℕ) (i : ℕ) → length A ≡ per_entry * i → entry_in (A ++ (words e ++ B)) i ≡ e
entry_back e A B i h = λ j. record { ray = w0 j; first = w1 j; len = w2 j; kind = w3 j }
  where
    from : (n : ℕ) → get_or (A ++ (words e ++ B)) (per_entry * i + n) 0 ≡ get_or (words e ++ B) n 0
    from n = ap (λ (m : ℕ). get_or (A ++ (words e ++ B)) (m + n) 0) (sym h) ∙ get_or-append-add A (words e ++ B) n 0

    w0 : get_or (A ++ (words e ++ B)) (per_entry * i) 0 ≡ e.ray
    w0 = ap (λ (m : ℕ). get_or (A ++ (words e ++ B)) m 0) (sym (add-zero (per_entry * i))) ∙ from 0

    w1 : get_or (A ++ (words e ++ B)) (per_entry * i + 1) 0 ≡ e.first
    w1 = from 1

    w2 : get_or (A ++ (words e ++ B)) (per_entry * i + 2) 0 ≡ e.len
    w2 = from 2

    w3 : get_or (A ++ (words e ++ B)) (per_entry * i + 3) 0 ≡ e.kind
    w3 = from 3

entries_back : (es : List Entry) (A B : List ℕ) (i : ℕ) → length A ≡ per_entry * i → entries_in (A ++ (words_of es ++ B)) i (length es) ≡ es
unfolding words_of entries_in
entries_back [] A B i h = refl
entries_back (e ∷ es) A B i h =
    let regroup : A ++ ((words e ++ words_of es) ++ B) ≡ A ++ (words e ++ (words_of es ++ B)) = ap (λ (l : List ℕ). A ++ l) (append_assoc (words e) (words_of es) B) in
    let longer : A ++ (words e ++ (words_of es ++ B)) ≡ (A ++ words e) ++ (words_of es ++ B) = sym (append_assoc A (words e) (words_of es ++ B)) in
    let first : entry_in (A ++ ((words e ++ words_of es) ++ B)) i ≡ e = ap (λ (l : List ℕ). entry_in l i) regroup ∙ entry_back e A (words_of es ++ B) i h in
    let rest : entries_in (A ++ ((words e ++ words_of es) ++ B)) (suc i) (length es) ≡ es =
    ap (λ (l : List ℕ). entries_in l (suc i) (length es)) (regroup ∙ longer)
    ∙ entries_back es (A ++ words e) B (suc i) (omega (arith, length-append A (words e))) in
    (λ j. first j ∷ rest j)

-- what was listed into words is what they hold
pub held : (d : List ℕ) (es : List Entry) → entries_in (out_of d es) 0 (length (fitting (length d) es)) ≡ fitting (length d) es
unfolding out_of
held d es =
    let fs : List Entry = fitting (length d) es in
    let few : per_entry * length fs ≤ length d = omega (arith, length-take (length d / per_entry) es) in
    let size = length_words fs in
    ap (λ (l : List ℕ). entries_in l 0 (length fs)) (sets-eq (words_of fs) d 0 (omega arith)) ∙ entries_back fs [] (drop (0 + length (words_of fs)) d) 0 (omega arith)

-- ---- a part of the entries that words hold
entries_take : (ws : List ℕ) (i n m : ℕ) → n ≤ m → take n (entries_in ws i m) ≡ entries_in ws i n
unfolding entries_in
entries_take ws i zero m h = refl
entries_take ws i (suc n) zero h = absurd (omega arith)
entries_take ws i (suc n) (suc m) h = ap (λ (l : List Entry). entry_in ws i ∷ l) (entries_take ws (suc i) n m (omega arith))

entries_drop : (ws : List ℕ) (i k m : ℕ) → drop k (entries_in ws i m) ≡ entries_in ws (i + k) (m - k)
unfolding entries_in
entries_drop ws i zero m =
    let on : i ≡ i + 0 = omega arith in
    let left : m ≡ m - 0 = omega arith in
    (λ j. entries_in ws (on j) (left j))
entries_drop ws i (suc k) zero = let none : 0 ≡ 0 - suc k = omega arith in ap (λ (n : ℕ). entries_in ws (i + suc k) n) none
entries_drop ws i (suc k) (suc m) =
    let on : suc i + k ≡ i + suc k = omega arith in
    let left : m - k ≡ suc m - suc k = omega arith in
    entries_drop ws (suc i) k m ∙ (λ j. entries_in ws (on j) (left j))

pub entries_part : (ws : List ℕ) (k n m : ℕ) → k + n ≤ m → entries_in ws k n ≡ take n (drop k (entries_in ws 0 m))
entries_part ws k n m h = sym (ap (λ (l : List Entry). take n l) (entries_drop ws 0 k m ∙ ap (λ (j : ℕ). entries_in ws j (m - k)) none) ∙ entries_take ws k n (m - k) (omega arith))
  where
    none : 0 + k ≡ k
    none = omega arith
