-- A file by the octets of its sections is accepted by the places at which they stand, and the cuts there have just these octets.
use Prim.Native.Nat.{ℕ, ◌+◌, ◌≤◌}
use mathlib.Core.Path.{◌≡◌, refl, sym, ◌∙◌, ap, subst}
use mathlib.Core.List.{List, [], ◌∷◌, ◌++◌, map, append_assoc, append-nil}
use native.Mathlib.Omega.{arith}
use lib.ListN.{length, drop, length-append, length-map}
use Rattle.rules.specs.Rules.{rules0, rules1, rules6, rules8}
use Rattle.rules.specs.Fields.{length_at}
use Rattle.sections.specs.Verdict.{end_of}
use Rattle.sections.specs.Accepted as A
use Rattle.sections.specs.Accepted.{Meets, Format, Section, Body, AcceptedBy, section_at}
use Rattle.sections.specs.declared.Cut.{Cut}
use Rattle.octets.proofs.Lies.{Lies}
use Rattle.rules.proofs.Moved.{rules_same}
use Rattle.files.specs.File.{Parts, parts_at, Whole, Cuts, none, new_3, same_3, File, first_four, body_of}
use Rattle.files.proofs.Section.{long_of, section_of, octets_of_lem, rest_of}
use Rattle.files.proofs.Leading.{size_of, past_zero, past_one, past_cuts}
use Rattle.files.proofs.ToFile.{body_assoc, reach0, reach1, reach8}

pub body_length : (p : Parts) (r : List ℕ) → length (body_of p r) ≡ length p.four + (length p.five + (length p.six + (length p.seven + length r)))
body_length p r = simp length-append

module _ (f : Format) (s : List ℕ) (end : ℕ) where
  record BodyOn (first s3 at : ℕ) (p : Parts) (r : List ℕ) : Type 0 where
    pub c : Cut
    pub next : ℕ
    pub body : Body f s end first s3 at c next
    pub are : parts_at s c ≡ p
    pub from : drop next s ≡ r
    pub up_to : next + length r ≡ at + length (body_of p r)

  body_on : (first s3 at : ℕ) (of : List ℕ) (p : Parts) (r : List ℕ) → section_at s first ≡ of → section_at s s3 ≡ p.three
      → Whole f of p → drop at s ≡ body_of p r → at + length (body_of p r) ≤ end + length r → BodyOn first s3 at p r
  unfolding rules6
  body_on first s3 at of p r ef e3 w e le =
      let size = body_length p r in
      let s5 = at + length p.four in
      let s6 = s5 + length p.five in
      let s7 = s6 + length p.six in
      let next = s7 + length p.seven in
      let r7 = p.seven ++ r in
      let r6 = p.six ++ r7 in
      let r5 = p.five ++ r6 in
      let e5 : drop s5 s ≡ r5 = rest_of s at r5 e w.four in
      let e6 : drop s6 s ≡ r6 = rest_of s s5 r6 e5 w.five in
      let e7 : drop s7 s ≡ r7 = rest_of s s6 r7 e6 w.six in
      let e8 : drop next s ≡ r = rest_of s s7 r e7 w.seven in
      let o4 = octets_of_lem s at r5 e w.four in
      let o5 = octets_of_lem s s5 r6 e5 w.five in
      let o7 = octets_of_lem s s7 r e7 w.seven in
      let l5 : s5 + length_at s s5 ≡ s6 = ap (λ (n : ℕ). s5 + n) (long_of s s5 r6 e5 w.five) in
      let six_long = w.six_long in
      record {
        c = record { section3 = s3; section4 = at; section5 = s5; section7 = s7 };
        next = next;
        body =
            record {
              s5 = s5;
              s6 = s6;
              s7 = s7;
              four = section_of s at r5 e w.four end (omega arith);
              four_is = subst (λ (T : Type 0). T) (λ i. f.Four (sym ef i) (sym e3 i) (sym o4 i)) w.four_is;
              five = section_of s s5 r6 e5 w.five end (omega arith);
              five_is = subst (λ (T : Type 0). T) (λ i. f.Five (sym e3 i) (sym o4 i) (sym o5 i)) w.five_is;
              six =
                  record {
                    here = section_of s s6 r7 e6 w.six end (omega arith);
                    long = long_of s s6 r7 e6 w.six ∙ w.six_long;
                    rules = rules_same s s6 p.six (record { after = r7; from = e6 }) 6 (omega arith) rules6 refl ∙ w.six_is;
                  };
              seven = section_of s s7 r e7 w.seven end (omega arith);
              seven_is = subst (λ (T : Type 0). T) (λ i. f.Seven (sym e3 i) (sym o5 i) (sym o7 i)) w.seven_is;
              is = refl;
            };
        are =
            (λ i.
            record {
              three = e3 i;
              four = o4 i;
              five = o5 i;
              six = (ap (section_at s) l5 ∙ octets_of_lem s s6 r7 e6 w.six) i;
              seven = o7 i;
            });
        from = e8;
        up_to = omega arith;
      }

  record CutsOn (first s3 at : ℕ) (ps : List Parts) : Type 0 where
    pub cs : List Cut
    pub cuts : A.Cuts f s end first s3 at cs
    pub are : map (parts_at s) cs ≡ ps

  -- a cut put before those that follow it
  own_on : {first s3 at b3 : ℕ} {p : Parts} {qs : List Parts} {r : List ℕ} → Section s end 3 at b3 → f.Three (section_at s at)
      → (b : BodyOn first at b3 p r) → CutsOn first at b.next qs → CutsOn first s3 at (p ∷ qs)
  own_on here is b c = record { cs = b.c ∷ c.cs; cuts = A.new_3 here is b.body c.cuts; are = (λ i. b.are i ∷ c.are i) }

  shared_on : {first s3 at : ℕ} {p : Parts} {qs : List Parts} {r : List ℕ}
      → (b : BodyOn first s3 at p r) → CutsOn first s3 b.next qs → CutsOn first s3 at (p ∷ qs)
  shared_on b c = record { cs = b.c ∷ c.cs; cuts = A.same_3 b.body c.cuts; are = (λ i. b.are i ∷ c.are i) }

  cuts_on : (first : ℕ) (of : List ℕ) → section_at s first ≡ of → (t : List ℕ) → (s3 at : ℕ) (o3 : List ℕ) (ps : List Parts) (rest : List ℕ)
      → section_at s s3 ≡ o3 → Cuts f of o3 ps rest → drop at s ≡ rest ++ t → at + length rest ≡ end → CutsOn first s3 at ps
  cuts_on first of ef t s3 at o3 ps rest e3 none e up =
      let there : end ≡ at = omega arith in
      record { cs = []; cuts = subst (λ (x : ℕ). A.Cuts f s end first s3 x []) there A.none; are = refl }
  cuts_on first of ef t s3 at o3 ps rest e3 (new_3 {rest = r} {p = p} {ps = qs} w c) e up =
      let l3 = length-append p.three (body_of p r) in
      let size = body_length p r in
      let e' : drop at s ≡ p.three ++ (body_of p r ++ t) = e ∙ append_assoc p.three (body_of p r) t in
      let b3 = at + length p.three in
      let eb : drop b3 s ≡ body_of p (r ++ t) = rest_of s at (body_of p r ++ t) e' w.three ∙ body_assoc p r t in
      let lt = body_length p (r ++ t) in
      let o = octets_of_lem s at (body_of p r ++ t) e' w.three in
      let b = body_on first at b3 of p (r ++ t) ef o w eb (omega arith) in
      let up' = b.up_to in
      let rt = length-append r t in
      own_on (section_of s at (body_of p r ++ t) e' w.three end (omega arith)) (subst f.Three (sym o) w.three_is) b
      (cuts_on first of ef t at b.next p.three qs r o c b.from (omega arith))
  cuts_on first of ef t s3 at o3 ps rest e3 (same_3 {rest = r} {p = p} {ps = qs} w c) e up =
      let size = body_length p r in
      let eb : drop at s ≡ body_of p (r ++ t) = e ∙ body_assoc p r t in
      let lt = body_length p (r ++ t) in
      let b = body_on first s3 at of p (r ++ t) ef e3 w eb (omega arith) in
      let up' = b.up_to in
      let rt = length-append r t in
      shared_on b (cuts_on first of ef t s3 b.next p.three qs r e3 c b.from (omega arith))

-- cuts under no section 3: the first has one of its own
record FirstOn (f : Format) (first : List ℕ) (ps : List Parts) (rest : List ℕ) : Type 0 where
  pub p : Parts
  pub later : List Parts
  pub r : List ℕ
  pub whole : Whole f first p
  pub cuts : Cuts f first p.three later r
  pub are : ps ≡ p ∷ later
  pub is : rest ≡ p.three ++ body_of p r

first_on : (f : Format) (first o3 : List ℕ) (ps : List Parts) (rest : List ℕ) → Cuts f first o3 ps rest → o3 ≡ [] → 1 ≤ length ps → FirstOn f first ps rest
first_on f first o3 ps rest none e some = absurd (omega arith)
first_on f first o3 ps rest (new_3 {rest = r} {p = p} {ps = qs} w c) e some =
    record { p = p; later = qs; r = r; whole = w; cuts = c; are = refl; is = refl }
first_on f first o3 ps rest (same_3 {rest = r} {p = p} {ps = qs} w c) e some =
    let five = w.three.some in
    let z : length p.three ≡ 0 = ap length e in
    absurd (omega arith)

-- the file is accepted, and these are the octets of its cuts
pub record AcceptedAs (f : Format) (s : List ℕ) (ps : List Parts) : Type 0 where
  pub cs : List Cut
  pub accepted : AcceptedBy f s cs
  pub are : map (parts_at s) cs ≡ ps

-- the first cut of a file stands past section 1; then the others
module _ (f : Format) (s : List ℕ) (ps : List Parts) (file : File f s ps) (first : FirstOn f (first_four ps) ps file.leading.cuts) where
  abbrev four_at : ℕ
  four_at = 37 + length first.p.three

  from_three : drop 37 s ≡ first.p.three ++ (body_of first.p first.r ++ file.eight)
  from_three =
      past_one file.leading
      ∙ ap (λ (x : List ℕ). x ++ file.eight) first.is
      ∙ append_assoc first.p.three (body_of first.p first.r) file.eight

  from_four : drop four_at s ≡ body_of first.p (first.r ++ file.eight)
  from_four = rest_of s 37 _ from_three first.whole.three ∙ body_assoc first.p first.r file.eight

  third : section_at s 37 ≡ first.p.three
  third = octets_of_lem s 37 _ from_three first.whole.three

  fourth : section_at s four_at ≡ first_four ps
  fourth = octets_of_lem s four_at _ from_four first.whole.four ∙ sym (ap first_four first.are)

  cuts_end : four_at + length (body_of first.p first.r) ≡ end_of s
  cuts_end =
      let size = size_of file.leading in
      let l8 = file.eight_long in
      let cuts : length file.leading.cuts ≡ length first.p.three + length (body_of first.p first.r) =
      ap length first.is ∙ length-append first.p.three (body_of first.p first.r) in
      omega arith

  first_cut : BodyOn f s (end_of s) four_at 37 four_at first.p (first.r ++ file.eight)
  first_cut =
      let up = cuts_end in
      let lb = body_length first.p first.r in
      let lt = body_length first.p (first.r ++ file.eight) in
      let rt = length-append first.r file.eight in
      body_on f s (end_of s) four_at 37 four_at (first_four ps) first.p (first.r ++ file.eight) fourth third first.whole from_four (omega arith)

  later_cuts : (b : BodyOn f s (end_of s) four_at 37 four_at first.p (first.r ++ file.eight)) → CutsOn f s (end_of s) four_at 37 b.next first.later
  later_cuts b =
      let up = cuts_end in
      let next = b.up_to in
      let lb = body_length first.p first.r in
      let lt = body_length first.p (first.r ++ file.eight) in
      let rt = length-append first.r file.eight in
      cuts_on f s (end_of s) four_at (first_four ps) fourth file.eight 37 b.next first.p.three first.later first.r third first.cuts b.from (omega arith)

  accepted_as : (b : BodyOn f s (end_of s) four_at 37 four_at first.p (first.r ++ file.eight)) → CutsOn f s (end_of s) four_at 37 b.next first.later
      → AcceptedAs f s ps
  accepted_as b c =
      let a = file.leading in
      let t = file.eight in
      let end = end_of s in
      let l0 = a.zero_long in
      let l1 = a.one_long in
      let l8 = file.eight_long in
      let size = size_of a in
      let up = cuts_end in
      let there : end ≡ 37 + length a.cuts = omega arith in
      let one : Section s end 1 16 (16 + length a.one) = section_of s 16 (a.cuts ++ t) (past_zero a) a.one_here end (omega arith) in
      let z0 : Lies s 0 a.zero = record { after = a.one ++ (a.cuts ++ t); from = a.is } in
      let z1 : Lies s 16 a.one = record { after = a.cuts ++ t; from = past_zero a } in
      let z8 : Lies s end t = record { after = []; from = ap (λ (n : ℕ). drop n s) there ∙ past_cuts a ∙ sym (append-nil t) } in
      let are : map (parts_at s) (b.c ∷ c.cs) ≡ ps = (λ i. b.are i ∷ c.are i) ∙ sym first.are in
      let count = length-map (b.c ∷ c.cs) (parts_at s) in
      let same : length (map (parts_at s) (b.c ∷ c.cs)) ≡ length ps = ap length are in
      let few = file.few in
      record {
        cs = b.c ∷ c.cs;
        accepted =
            record {
              small = omega arith;
              large = file.large;
              zero =
                  rules_same s 0 a.zero z0 16 (omega arith) (rules0 (length s)) (reach0 (length s))
                  ∙ subst (λ (n : ℕ). Meets a.zero 0 (rules0 n)) file.total a.zero_is;
              past =
                  record {
                    s3 = 37;
                    s4 = four_at;
                    next = b.next;
                    cut = b.c;
                    later = c.cs;
                    one =
                        record {
                          here = subst (Section s end 1 16) (ap (λ (n : ℕ). 16 + n) a.one_long) one;
                          long = long_of s 16 (a.cuts ++ t) (past_zero a) a.one_here ∙ a.one_long;
                          rules = rules_same s 16 a.one z1 21 (omega arith) rules1 reach1 ∙ a.one_is;
                        };
                    three = section_of s 37 _ from_three first.whole.three end (omega arith);
                    three_is = subst f.Three (sym third) first.whole.three_is;
                    body = b.body;
                    cuts = c.cuts;
                    few = omega arith;
                    eight = rules_same s end t z8 4 (omega arith) rules8 reach8 ∙ file.eight_is;
                    are = refl;
                  };
            };
        are = are;
      }

-- and back: sections one after the other are an accepted file with just these cuts
pub of_file : (f : Format) (s : List ℕ) (ps : List Parts) → File f s ps → AcceptedAs f s ps
of_file f s ps file =
    let a = file.leading in
    let first = first_on f (first_four ps) [] ps a.cuts a.cuts_are refl file.some in
    let b = first_cut f s ps file first in
    accepted_as f s ps file first b (later_cuts f s ps file first b)
