-- FORMAT.md, "To come", rescue, over octets: octets have one reading, so that "the greatest number of leading cuts" is one number and its cuts are one list; an accepted file
-- has no more leading cuts than it has cuts, and comes out unchanged. (That what comes out is a file with the kept cuts is `assembled_file`.)
use Prim.Native.Nat.{ℕ, ◌+◌, ◌≤◌, ◌<◌}
use mathlib.Core.Path.{◌≡◌, refl, sym, ◌∙◌, ap, subst}
use mathlib.Core.List.{List, [], ◌∷◌, ◌++◌, append_assoc, append-nil}
use native.Mathlib.Omega.{arith}
use native.Mathlib.Decide.{dec_le}
use lib.ListN.{length, get_or, take, drop, length-append, length-drop, take-append-drop, get_or-eq_default}
use lib.Seq.{take_all, take-append_seam, drop-append_seam}
use Rattle.octets.specs.Octets.{be, in_octets}
use Rattle.octets.proofs.Lies.{Lies, octet_same, be_same}
use Rattle.octets.proofs.Written.{read_writes}
use Rattle.rules.specs.Rules.{field, is, rules8}
use Rattle.rules.specs.Fields.{length_at, number_at}
use Rattle.rules.proofs.Bounds.{nth_rule, is_exactly}
use Rattle.rules.proofs.Moved.{field_same}
use Rattle.sections.specs.Accepted.{Format}
use Rattle.files.specs.File.{Is, Parts, Whole, Cuts, none, new_3, same_3, Leading, File, first_four, body_of}
use Rattle.files.specs.Smaller.{totalled, sevens, assembled}
use Rattle.files.proofs.Leading.{size_of, past_one, past_cuts}
use Rattle.files.proofs.FromFile.{body_length}
use Rattle.files.proofs.ToFile.{body_assoc}

-- ── one reading ──

-- octets that begin with a section begin with no other
record Same (n m : ℕ) (o p r q : List ℕ) : Type 0 where
  pub number : n ≡ m
  pub section : o ≡ p
  pub rest : r ≡ q

same_section : {n m : ℕ} {o p : List ℕ} (r q : List ℕ) → Is n o → Is m p → o ++ r ≡ p ++ q → Same n m o p r q
unfolding length_at number_at
same_section {o = o} {p = p} r q i j e =
    let some_o = i.some in
    let some_p = j.some in
    let lo : Lies (o ++ r) 0 o = record { after = r; from = refl } in
    let lp : Lies (o ++ r) 0 p = record { after = q; from = e } in
    let long : length o ≡ length p =
    sym i.long ∙ sym (field_same (o ++ r) 0 o lo 1 4 (omega arith) (omega arith)) ∙ field_same (o ++ r) 0 p lp 1 4 (omega arith) (omega arith) ∙ j.long in
    record {
      number =
          sym i.number ∙ sym (field_same (o ++ r) 0 o lo 5 1 (omega arith) (omega arith)) ∙ field_same (o ++ r) 0 p lp 5 1 (omega arith) (omega arith) ∙ j.number;
      section = sym (take-append_seam o r) ∙ (λ i. take (long i) (e i)) ∙ take-append_seam p q;
      rest = sym (drop-append_seam o r) ∙ (λ i. drop (long i) (e i)) ∙ drop-append_seam p q;
    }

-- the same of a cut's body
same_body : (k : Format) (first first' : List ℕ) (p q : Parts) (r t : List ℕ) → Whole k first p → Whole k first' q → p.three ≡ q.three → body_of p r ≡ body_of q t
    → (p ≡ q) × (r ≡ t)
same_body k first first' p q r t a b e3 e =
    let x4 = same_section _ _ a.four b.four e in
    let x5 = same_section _ _ a.five b.five x4.rest in
    let x6 = same_section _ _ a.six b.six x5.rest in
    let x7 = same_section _ _ a.seven b.seven x6.rest in
    ((λ i. record { three = e3 i; four = x4.section i; five = x5.section i; six = x6.section i; seven = x7.section i }), x7.rest)

cuts_long : (k : Format) (first s3 : List ℕ) (ps : List Parts) (a : List ℕ) → Cuts k first s3 ps a → 1 ≤ length ps → 5 ≤ length a
cuts_long k first s3 ps a none some = absurd (omega arith)
cuts_long k first s3 ps a (new_3 {rest = r} {p = p} w c) some =
    let l = length-append p.three (body_of p r) in
    let f = w.three.some in
    omega arith
cuts_long k first s3 ps a (same_3 {rest = r} {p = p} w c) some =
    let l = body_length p r in
    let f = w.four.some in
    omega arith

-- of two readings the longer goes on where the shorter ends
pub record Longer (ps qs : List Parts) (a b : List ℕ) : Type 0 where
  pub more : List Parts
  pub are : qs ≡ ps ++ more
  pub extra : List ℕ
  pub octets : b ≡ a ++ extra
  pub long : 1 ≤ length more → 5 ≤ length extra

pub one_reading : (k : Format) (first first' s3 t3 : List ℕ) (ps qs : List Parts) (a b x y : List ℕ) → Cuts k first s3 ps a → Cuts k first' t3 qs b → s3 ≡ t3
    → a ++ x ≡ b ++ y → length ps ≤ length qs → Longer ps qs a b
one_reading k first first' s3 t3 ps qs a b x y none d e3 e le =
    record { more = qs; are = refl; extra = b; octets = refl; long = cuts_long k first' t3 qs b d }
one_reading k first first' s3 t3 ps qs a b x y (new_3 w c) none e3 e le = absurd (omega arith)
one_reading k first first' s3 t3 ps qs a b x y (same_3 w c) none e3 e le = absurd (omega arith)
one_reading k first first' s3 t3 ps qs a b x y (new_3 {rest = r} {p = p} {ps = us} w c) (new_3 {rest = t} {p = q} {ps = vs} v d) e3 e le =
    let e' : p.three ++ (body_of p r ++ x) ≡ q.three ++ (body_of q t ++ y) =
    sym (append_assoc p.three (body_of p r) x) ∙ e ∙ append_assoc q.three (body_of q t) y in
    let s = same_section _ _ w.three v.three e' in
    let z = same_body k first first' p q (r ++ x) (t ++ y) w v s.section (sym (body_assoc p r x) ∙ s.rest ∙ body_assoc q t y) in
    let n = one_reading k first first' p.three q.three us vs r t x y c d s.section z.1 (omega arith) in
    record {
      more = n.more;
      are = (λ i. sym z.0 i ∷ n.are i);
      extra = n.extra;
      octets =
          (λ i. sym s.section i ++ body_of (sym z.0 i) (n.octets i))
          ∙ ap (λ (l : List ℕ). p.three ++ l) (sym (body_assoc p r n.extra))
          ∙ sym (append_assoc p.three (body_of p r) n.extra);
      long = n.long;
    }
one_reading k first first' s3 t3 ps qs a b x y (same_3 {rest = r} {p = p} {ps = us} w c) (same_3 {rest = t} {p = q} {ps = vs} v d) e3 e le =
    let z = same_body k first first' p q (r ++ x) (t ++ y) w v e3 (sym (body_assoc p r x) ∙ e ∙ body_assoc q t y) in
    let n = one_reading k first first' p.three q.three us vs r t x y c d e3 z.1 (omega arith) in
    record {
      more = n.more;
      are = (λ i. sym z.0 i ∷ n.are i);
      extra = n.extra;
      octets = (λ i. body_of (sym z.0 i) (n.octets i)) ∙ sym (body_assoc p r n.extra);
      long = n.long;
    }
one_reading k first first' s3 t3 ps qs a b x y (new_3 {rest = r} {p = p} w c) (same_3 {rest = t} {p = q} v d) e3 e le =
    let e' : p.three ++ (body_of p r ++ x) ≡ body_of q (t ++ y) = sym (append_assoc p.three (body_of p r) x) ∙ e ∙ body_assoc q t y in
    let s = same_section _ _ w.three v.four e' in
    let z = s.number in
    absurd (omega arith)
one_reading k first first' s3 t3 ps qs a b x y (same_3 {rest = r} {p = p} w c) (new_3 {rest = t} {p = q} v d) e3 e le =
    let e' : body_of p (r ++ x) ≡ q.three ++ (body_of q t ++ y) = sym (body_assoc p r x) ∙ e ∙ append_assoc q.three (body_of q t) y in
    let s = same_section _ _ w.four v.three e' in
    let z = s.number in
    absurd (omega arith)

-- ── the readings of any octets, and of a file ──

-- of two readings of the same octets the longer has the cuts of the shorter first
pub leading_one : (k : Format) (s : List ℕ) (ps qs : List Parts) (left left' : List ℕ) (a : Leading k s ps left) (b : Leading k s qs left') → length ps ≤ length qs
    → Longer ps qs a.cuts b.cuts
leading_one k s ps qs left left' a b le =
    one_reading k (first_four ps) (first_four qs) [] [] ps qs a.cuts b.cuts left left' a.cuts_are b.cuts_are refl (sym (past_one a) ∙ past_one b) le

-- a file has no more leading cuts than cuts: past them stand four octets, too few for a section
pub file_most : (k : Format) (s : List ℕ) (ps qs : List Parts) (left : List ℕ) → File k s ps → Leading k s qs left → length qs ≤ length ps
file_most k s ps qs left file b = go (dec_le (length qs) (length ps))
  where
    go : Dec (length qs ≤ length ps) → length qs ≤ length ps
    go (yes h) = h
    go (no h) =
        let a = file.leading in
        let l = leading_one k s ps qs file.eight left a b (omega arith) in
        let n : length qs ≡ length ps + length l.more = ap length l.are ∙ length-append ps l.more in
        let far = l.long (omega arith) in
        let m : length b.cuts ≡ length a.cuts + length l.extra = ap length l.octets ∙ length-append a.cuts l.extra in
        let sa = size_of a in
        let sb = size_of b in
        let l8 = file.eight_long in
        absurd (omega arith)

-- ── unchanged ──

-- octets that lie among octets
small_there : (s : List ℕ) (at : ℕ) (o : List ℕ) → Lies s at o → ((i : ℕ) → get_or s i 0 < 256) → (i : ℕ) → get_or o i 0 < 256
small_there s at o lies small i = go (dec_le (length o) i)
  where
    go : Dec (length o ≤ i) → get_or o i 0 < 256
    go (yes h) = rw (get_or-eq_default o 0 h) (omega arith)
    go (no h) = subst (λ (n : ℕ). n < 256) (octet_same s at o lies i (omega arith)) (small (at + i))

-- octets that write a number, and are as many, are that number written
written_are : (o : List ℕ) (w n : ℕ) → ((i : ℕ) → get_or o i 0 < 256) → length o ≡ w → be o 0 w ≡ n → in_octets w n ≡ o
written_are o w n small long e = ap (in_octets w) (sym e) ∙ read_writes o small w (omega arith) ∙ take_all w o (omega arith)

seven_octets : sevens ≡ in_octets 4 0x37373737
unfolding in_octets
seven_octets = refl

-- an accepted file comes out unchanged
pub unchanged : (k : Format) (s : List ℕ) (ps : List Parts) (file : File k s ps) → ((i : ℕ) → get_or s i 0 < 256)
    → assembled file.leading.zero file.leading.one file.leading.cuts ≡ s
unfolding field rules8
unchanged k s ps file small =
    let a = file.leading in
    let t = file.eight in
    let l0 = a.zero_long in
    let l1 = a.one_long in
    let l8 = file.eight_long in
    let size = size_of a in
    let back = drop 8 a.zero in
    let long : length back ≡ 8 = length-drop 8 a.zero ∙ (omega arith) in
    let back_lies : Lies a.zero 8 back = record { after = []; from = sym (append-nil back) } in
    let in_zero = small_there s 0 a.zero (record { after = a.one ++ (a.cuts ++ t); from = a.is }) small in
    let in_eight = small_there s (37 + length a.cuts) t (record { after = []; from = past_cuts a ∙ sym (append-nil t) }) small in
    let total : be back 0 8 ≡ 16 + (length a.one + (length a.cuts + 4)) =
    sym (be_same a.zero 8 back back_lies 0 8 (omega arith)) ∙ file.total ∙ (omega arith) in
    let zero_same : totalled a.zero (16 + (length a.one + (length a.cuts + 4))) ≡ a.zero =
    ap (λ (x : List ℕ). take 8 a.zero ++ x) (written_are back 8 _ (small_there a.zero 8 back back_lies in_zero) long total)
    ∙ take-append-drop 8 a.zero in
    let sevens_there : be t 0 4 ≡ 0x37373737 = is_exactly t 0 1 4 0x37373737 (nth_rule t 0 rules8 (is 0 0 0) file.eight_is 0 (omega arith)) in
    let eight_same : sevens ≡ t = seven_octets ∙ written_are t 4 0x37373737 in_eight l8 sevens_there in
    (λ i. zero_same i ++ (a.one ++ (a.cuts ++ eight_same i))) ∙ sym a.is
