-- A file that is accepted by the places of its sections is a file by their octets: the sections one after the other.
use Prim.Native.Nat.{ℕ, ◌-◌, ◌≤◌}
use mathlib.Core.Path.{◌≡◌, refl, sym, ◌∙◌, ap, subst}
use mathlib.Core.List.{List, [], ◌∷◌, ◌++◌, map, append_assoc, append-nil}
use mathlib.Core.Bool.{true}
use native.Mathlib.Omega.{arith}
use lib.ListN.{length, take, drop, length-take, length-drop, length-map, take-append-drop}
use Rattle.octets.proofs.Lies.{Lies}
use Rattle.rules.specs.Rules.{is, rules0, rules1, rules6, rules8}
use Rattle.rules.proofs.Bounds.{nth_rule, is_exactly}
use Rattle.rules.proofs.Moved.{reach_all, rules_same}
use Rattle.sections.specs.Verdict.{end_of}
use Rattle.sections.specs.Accepted as A
use Rattle.sections.specs.Accepted.{Meets, Format, Body, AcceptedBy, section_at}
use Rattle.sections.specs.declared.Cut.{Cut}
use Rattle.sections.proofs.There.{lies_at, there, goes_on}
use Rattle.files.specs.File.{Is, Parts, parts_at, Whole, Cuts, none, new_3, same_3, File, first_four, body_of, total_in}
use Rattle.files.proofs.Section.{is_at}

pub body_assoc : (p : Parts) (r t : List ℕ) → body_of p r ++ t ≡ body_of p (r ++ t)
body_assoc p r t = simp append_assoc

module _ (f : Format) (s : List ℕ) (end : ℕ) (inside : end ≤ length s) where
  -- the cut of a body, by its octets
  record BodyIn (first : List ℕ) (s3 at : ℕ) (c : Cut) (next : ℕ) : Type 0 where
    pub p : Parts
    pub are : p ≡ parts_at s c
    pub three : p.three ≡ section_at s s3
    pub four : p.four ≡ section_at s at
    pub whole : Whole f first p
    pub from : drop at s ≡ body_of p (drop next s)

  body_in : (first s3 at : ℕ) (c : Cut) (next : ℕ) → Is 3 (section_at s s3) → f.Three (section_at s s3)
      → Body f s end first s3 at c next → BodyIn (section_at s first) s3 at c next
  unfolding rules6
  body_in first s3 at c next i3 t3 b =
      let six_long : length (section_at s b.s6) ≡ 6 = sym (there inside b.six.here) ∙ b.six.long in
      record {
        p =
            record {
              three = section_at s s3;
              four = section_at s at;
              five = section_at s b.s5;
              six = section_at s b.s6;
              seven = section_at s b.s7;
            };
        are =
            (λ i.
            record {
              three = section_at s s3;
              four = section_at s at;
              five = section_at s b.s5;
              six = section_at s (sym b.five.up_to i);
              seven = section_at s b.s7;
            })
            ∙ ap (parts_at s) (sym b.is);
        three = refl;
        four = refl;
        whole =
            record {
              three = i3;
              three_is = t3;
              four = is_at inside b.four;
              four_is = b.four_is;
              five = is_at inside b.five;
              five_is = b.five_is;
              six = is_at inside b.six.here;
              six_long = six_long;
              six_is = sym (rules_same s b.s6 _ (lies_at s b.s6) 6 (omega arith) rules6 refl) ∙ b.six.rules;
              seven = is_at inside b.seven;
              seven_is = b.seven_is;
            };
        from =
            goes_on inside b.four
            ∙ ap (λ (x : List ℕ). section_at s at ++ x) (goes_on inside b.five
            ∙ ap (λ (x : List ℕ). section_at s b.s5 ++ x) (goes_on inside b.six.here
            ∙ ap (λ (x : List ℕ). section_at s b.s6 ++ x) (goes_on inside b.seven)));
      }

  -- the cuts from a place on, by their octets
  record CutsIn (first : List ℕ) (o3 : List ℕ) (at : ℕ) (cs : List Cut) : Type 0 where
    pub ps : List Parts
    pub rest : List ℕ
    pub are : ps ≡ map (parts_at s) cs
    pub cuts : Cuts f first o3 ps rest
    pub from : drop at s ≡ rest ++ drop end s

  one_own : (first : List ℕ) (s3 : List ℕ) (b3 at : ℕ) (c : Cut) (next : ℕ) (cs : List Cut) → BodyIn first b3 at c next
      → CutsIn first (section_at s b3) next cs → (from : ℕ) → drop from s ≡ section_at s b3 ++ drop at s → CutsIn first s3 from (c ∷ cs)
  one_own first s3 b3 at c next cs b r from e =
      record {
        ps = b.p ∷ r.ps;
        rest = b.p.three ++ body_of b.p r.rest;
        are = (λ i. b.are i ∷ r.are i);
        cuts = new_3 b.whole (subst (λ (o : List ℕ). Cuts f first o r.ps r.rest) (sym b.three) r.cuts);
        from =
            e
            ∙ (λ i. sym b.three i ++ (b.from ∙ ap (body_of b.p) r.from ∙ sym (body_assoc b.p r.rest (drop end s))) i)
            ∙ sym (append_assoc b.p.three (body_of b.p r.rest) (drop end s));
      }

  one_shared : (first : List ℕ) (s3 at : ℕ) (c : Cut) (next : ℕ) (cs : List Cut) → BodyIn first s3 at c next
      → CutsIn first (section_at s s3) next cs → CutsIn first (section_at s s3) at (c ∷ cs)
  one_shared first s3 at c next cs b r =
      record {
        ps = b.p ∷ r.ps;
        rest = body_of b.p r.rest;
        are = (λ i. b.are i ∷ r.are i);
        cuts =
            subst (λ (o : List ℕ). Cuts f first o (b.p ∷ r.ps) (body_of b.p r.rest)) b.three
            (same_3 b.whole (subst (λ (o : List ℕ). Cuts f first o r.ps r.rest) (sym b.three) r.cuts));
        from = b.from ∙ ap (body_of b.p) r.from ∙ sym (body_assoc b.p r.rest (drop end s));
      }

  cuts_in_lem : (first s3 at : ℕ) (cs : List Cut) → Is 3 (section_at s s3) → f.Three (section_at s s3) → A.Cuts f s end first s3 at cs
      → CutsIn (section_at s first) (section_at s s3) at cs
  cuts_in_lem first s3 at cs i3 t3 A.none = record { ps = []; rest = []; are = refl; cuts = none; from = refl }
  cuts_in_lem first s3 at cs i3 t3 (A.new_3 {b = b} {next = next} {c = c} {cs = ds} here is body r) =
      let i = is_at inside here in
      one_own (section_at s first) (section_at s s3) at b c next ds (body_in first at b c next i is body) (cuts_in_lem first at next ds i is r) at
      (goes_on inside here)
  cuts_in_lem first s3 at cs i3 t3 (A.same_3 {next = next} {c = c} {cs = ds} body r) =
      one_shared (section_at s first) s3 at c next ds (body_in first s3 at c next i3 t3 body) (cuts_in_lem first s3 next ds i3 t3 r)

-- ── sections 0, 1 and 8 ──

pub reach0 : (n : ℕ) → reach_all 16 (rules0 n) ≡ true
unfolding rules0
reach0 n = refl

pub reach1 : reach_all 21 rules1 ≡ true
unfolding rules1
reach1 = refl

pub reach8 : reach_all 4 rules8 ≡ true
unfolding rules8
reach8 = refl

-- a section 0 that is right under a total writes that total
pub total_of : (o : List ℕ) (n : ℕ) → Meets o 0 (rules0 n) → total_in o ≡ n
unfolding rules0
total_of o n h = is_exactly o 0 9 8 n (nth_rule o 0 (rules0 n) (is 0 0 0) h 3 (omega arith))

-- THE LAW: the sections of an accepted file, one after the other, are the file
pub file_of : (f : Format) (s : List ℕ) (cs : List Cut) → AcceptedBy f s cs → File f s (map (parts_at s) cs)
file_of f s cs a =
    let p = a.past in
    let small = a.small in
    let end = end_of s in
    let inside : end ≤ length s = omega arith in
    let long1 : length (section_at s 16) ≡ 21 = sym (there inside p.one.here) ∙ p.one.long in
    let i3 = is_at inside p.three in
    let of = section_at s p.s4 in
    let b = body_in f s end inside p.s4 p.s3 p.s4 p.cut p.next i3 p.three_is p.body in
    let r = cuts_in_lem f s end inside p.s4 p.s3 p.next p.later i3 p.three_is p.cuts in
    let all = one_own f s end inside of [] p.s3 p.s4 p.cut p.next p.later b r p.s3 (goes_on inside p.three) in
    let ps : List Parts = map (parts_at s) (p.cut ∷ p.later) in
    let first : of ≡ first_four ps = sym b.four ∙ ap (λ (q : Parts). q.four) b.are in
    let e16 : length (drop 16 s) ≡ length s - 16 = length-drop 16 s in
    let zero_long : length (take 16 s) ≡ 16 = length-take 16 s ∙ (omega arith) in
    let eight_long : length (drop end s) ≡ 4 = length-drop end s ∙ (omega arith) in
    let zero_lies : Lies s 0 (take 16 s) = record { after = drop 16 s; from = sym (take-append-drop 16 s) } in
    let eight_lies : Lies s end (drop end s) = record { after = []; from = sym (append-nil (drop end s)) } in
    let zero_right : Meets (take 16 s) 0 (rules0 (length s)) =
    sym (rules_same s 0 (take 16 s) zero_lies 16 (omega arith) (rules0 (length s)) (reach0 (length s))) ∙ a.zero in
    let total : total_in (take 16 s) ≡ length s = total_of (take 16 s) (length s) zero_right in
    let cuts_are : Cuts f of [] ps all.rest = subst (λ (x : List Parts). Cuts f of [] x all.rest) all.are all.cuts in
    let all_are : ps ≡ map (parts_at s) cs = ap (map (parts_at s)) (sym p.are) in
    let number : length cs ≡ length (p.cut ∷ p.later) = ap length p.are in
    let few = p.few in
    let count = length-map cs (parts_at s) in
    record {
      eight = drop end s;
      leading =
          record {
            zero = take 16 s;
            one = section_at s 16;
            cuts = all.rest;
            is =
                sym (take-append-drop 16 s)
                ∙ ap (λ (x : List ℕ). take 16 s ++ x) (goes_on inside p.one.here
                ∙ ap (λ (x : List ℕ). section_at s 16 ++ x) all.from);
            zero_long = zero_long;
            zero_is = subst (λ (n : ℕ). Meets (take 16 s) 0 (rules0 n)) (sym total) zero_right;
            one_here = is_at inside p.one.here;
            one_long = long1;
            one_is = sym (rules_same s 16 (section_at s 16) (lies_at s 16) 21 (omega arith) rules1 reach1) ∙ p.one.rules;
            cuts_are =
                subst (λ (x : List Parts). Cuts f (first_four x) [] x all.rest) all_are
                (subst (λ (x : List ℕ). Cuts f x [] ps all.rest) first cuts_are);
          };
      total = total;
      large = a.large;
      some = omega arith;
      few = omega arith;
      eight_long = eight_long;
      eight_is = sym (rules_same s end (drop end s) eight_lies 4 (omega arith) rules8 reach8) ∙ p.eight;
    }
