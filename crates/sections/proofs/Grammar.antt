-- The sections from section 1 on to the end all pass (`Rest`) exactly where they are as `Accepted` has them. Forward: sections are taken off the
-- front one at a time, four make a cut's body, and cuts are counted by how far they reach. Back: they are put on again from the end.
use Prim.Native.Nat.{ℕ, zero, suc, ◌+◌, ◌≤◌, ◌<◌}
use mathlib.Core.Path.{◌≡◌, refl, sym, ◌∙◌, ap, subst}
use mathlib.Core.List.{List, [], ◌∷◌, ◌++◌, append_assoc, append-nil}
use mathlib.Core.Bool.{Bool, true, false, false≢true, cond, not, ◌&&◌, ◌||◌}
use native.Mathlib.Omega.{arith}
use borrow.Author.Tests.{eqb-true, leb-false, lt-leb}
use lib.ListN.{length}
use lib.Dec.{leb, eqb}
use Rattle.rules.specs.Rules.{meets_all, rules8}
use Rattle.rules.specs.Fields.{length_at, number_at}
use Rattle.rules.proofs.Chains.{and_true_both}
use Rattle.sections.specs.Checks.{FormatChecks, follows, room_for_cut, closes, section_checks, checks_at}
use Rattle.sections.specs.History.{Seen, seen_at, previous, last_seen, first_seen, cuts_of, cuts_seen, context_of}
use Rattle.sections.specs.Accepted.{Format, Section, Body, Cuts, none, new_3, same_3, AfterZero, section_at}
use Rattle.sections.specs.Refused.{AllHold}
use Rattle.sections.specs.declared.Cut.{Cut}
use Rattle.sections.proofs.Framed.{Framed, framed_is, framed_of}
use Rattle.sections.proofs.Order.{Follow, f01, f13, f34, f45, f56, f67, f73, f74, follow}
use Rattle.sections.proofs.Faults.{Clean, clean, cleaned, checks_end}
use Rattle.sections.proofs.Sections.{Rest, stop, step}
use Rattle.sections.proofs.There.{AllThere, Known, there}
use Rattle.sections.proofs.Says.{Says, section_of, section1_of, section6_of, own1, own6}

-- a section of number n at a place, passed
abbrev seen_as : ℕ → ℕ → Seen
seen_as n at = record { number = n; place = at }

-- ── what comes after a section other than a 7 ──

abbrev next_of : ℕ → ℕ
next_of p = cond (eqb p 0) 1 (cond (eqb p 1) 3 (p + 1))

next_is : (p n : ℕ) → (p ≡ 7 → ⊥) → Follow p n → n ≡ next_of p
next_is p n h (f01 a b) = rw a b
next_is p n h (f13 a b) = rw a b
next_is p n h (f34 a b) = rw a b
next_is p n h (f45 a b) = rw a b
next_is p n h (f56 a b) = rw a b
next_is p n h (f67 a b) = rw a b
next_is p n h (f73 a b) = absurd (h a)
next_is p n h (f74 a b) = absurd (h a)

after_seven : (n : ℕ) {X : Type 0} → Follow 7 n → (n ≡ 3 → X) → (n ≡ 4 → X) → X
after_seven n (f01 a b) k l = absurd (omega arith)
after_seven n (f13 a b) k l = absurd (omega arith)
after_seven n (f34 a b) k l = absurd (omega arith)
after_seven n (f45 a b) k l = absurd (omega arith)
after_seven n (f56 a b) k l = absurd (omega arith)
after_seven n (f67 a b) k l = absurd (omega arith)
after_seven n (f73 a b) k l = k b
after_seven n (f74 a b) k l = l b

-- at the end the section before is a 7, and `7777` stands there
pub record Closed (s : List ℕ) (seen : List Seen) (at : ℕ) : Type 0 where
  pub seven : previous seen ≡ 7
  pub eight : meets_all s at rules8 ≡ true

closed_of : (o : FormatChecks) (s : List ℕ) (end : ℕ) (seen : List Seen) (at : ℕ) → at ≡ end → AllHold (checks_at o s end (context_of seen at) at) → Closed s seen at
unfolding context_of closes
closed_of o s end seen at e h =
    let k = subst AllHold (checks_end o s end (context_of seen at) at e) h in
    let g = and_true_both (eqb (previous seen) 7) (meets_all s at rules8) k.0 in
    record { seven = eqb-true _ _ g.0; eight = g.1 }

of_closed : (o : FormatChecks) (s : List ℕ) (end : ℕ) (seen : List Seen) (at : ℕ) → at ≡ end → Closed s seen at → AllHold (checks_at o s end (context_of seen at) at)
unfolding context_of closes
of_closed o s end seen at e c = rw (checks_end o s end (context_of seen at) at e) (rw (c.seven, c.eight), tt)

-- ── one section off the front ──

record Peeled (o : FormatChecks) (s : List ℕ) (end : ℕ) (seen : List Seen) (at n : ℕ) (all : List Seen) : Type 0 where
  pub number : number_at s at ≡ n
  pub frame : Framed s end (context_of seen at) at
  pub roomy : room_for_cut s (context_of seen at) at ≡ true
  pub its_own : AllHold (section_checks o s (context_of seen at) at n)
  pub rest : Rest o s end (seen_as n at ∷ seen) (at + length_at s at) all

peeled : (o : FormatChecks) (s : List ℕ) (end : ℕ) (seen : List Seen) (at n : ℕ) (all : List Seen) → number_at s at ≡ n → Clean o s end (context_of seen at) at
    → Rest o s end (seen_at s at ∷ seen) (at + length_at s at) all → Peeled o s end seen at n all
peeled o s end seen at n all e k r =
    record {
      number = e;
      frame = framed_is s end (context_of seen at) at k.frame;
      roomy = k.roomy;
      its_own = subst (λ (m : ℕ). AllHold (section_checks o s (context_of seen at) at m)) e k.its_own;
      rest = subst (λ (m : ℕ). Rest o s end (seen_as m at ∷ seen) (at + length_at s at) all) e r;
    }

allowed_is : (s : List ℕ) (end : ℕ) (seen : List Seen) (at : ℕ) → Framed s end (context_of seen at) at → Follow (previous seen) (number_at s at)
unfolding context_of
allowed_is s end seen at f = follow (previous seen) (number_at s at) f.allowed

peel : (o : FormatChecks) (s : List ℕ) (end : ℕ) (seen : List Seen) (at p : ℕ) (all : List Seen) → previous seen ≡ p → (p ≡ 7 → ⊥) → Rest o s end seen at all
    → Peeled o s end seen at (next_of p) all
peel o s end seen at p all e ne (stop there h) = absurd (ne (sym e ∙ (closed_of o s end seen at there h).seven))
peel o s end seen at p all e ne (step open_end h r) =
    let k = clean o s end (context_of seen at) at open_end h in
    let fr = framed_is s end (context_of seen at) at k.frame in
    let n = subst (λ (q : ℕ). Follow q (number_at s at)) e (allowed_is s end seen at fr) in
    peeled o s end seen at (next_of p) all (next_is p (number_at s at) ne n) k r

-- the sections from a place on, put before its end again
pub record CutsOn (o : FormatChecks) (s : List ℕ) (end : ℕ) (seen : List Seen) (at : ℕ) (cs : List Cut) : Type 0 where
  pub all : List Seen
  pub rest : Rest o s end seen at all
  pub all_are : cuts_of all ≡ cuts_of seen ++ cs

-- what a format says of its sections, and its checks, which ask just that
module _ (o : FormatChecks) (format : Format) (says : Says o format) where
  -- what is known once a section 4 has passed, to compare it with itself
  itself : (s : List ℕ) (first s3 at : ℕ) → Known format s first s3 → AllThere s at → 30 ≤ length_at s at → Known format s at s3
  itself s first s3 at n h le = record { long4 = omega arith; three = n.three }

  -- ── four of them: a cut from its section 4 on ──

  abbrev after_body : ℕ → ℕ → ℕ → ℕ → List Seen → List Seen
  after_body s4 s5 s6 s7 seen = seen_as 7 s7 ∷ seen_as 6 s6 ∷ seen_as 5 s5 ∷ seen_as 4 s4 ∷ seen

  record BodyOff (s : List ℕ) (end : ℕ) (first s3 : ℕ) (seen : List Seen) (at : ℕ) (all : List Seen) : Type 0 where
    pub next : ℕ
    pub cut : Cut
    pub body : Body format s end first s3 at cut next
    pub seen' : List Seen
    pub rest : Rest o s end seen' next all
    pub further : at < next
    pub inside : next ≤ end
    pub seven : previous seen' ≡ 7
    pub same3 : last_seen 3 seen' ≡ s3
    pub same4 : (d : ℕ) → first_seen 4 d seen' ≡ first
    pub more : cuts_seen seen' ≡ cuts_seen seen + 1
    pub cuts : cuts_of seen' ≡ cuts_of seen ++ (cut ∷ [])

  body_off : (s : List ℕ) (end : ℕ) → end ≤ length s → (first s3 : ℕ) → Known format s first s3 → (seen : List Seen) (at : ℕ) (all : List Seen)
      → first_seen 4 at seen ≡ first → last_seen 3 seen ≡ s3 → Peeled o s end seen at 4 all → BodyOff s end first s3 seen at all
  unfolding context_of last_seen first_seen cuts_seen cuts_of section_checks
  body_off s end inside first s3 known seen at all ef e3 p4 =
      let len4 = length_at s at in
      let s5 = at + len4 in
      let seen4 = seen_as 4 at ∷ seen in
      let p5 = peel o s end seen4 s5 4 all refl (λ z. omega arith) p4.rest in
      let s6 = s5 + length_at s s5 in
      let seen5 = seen_as 5 s5 ∷ seen4 in
      let p6 = peel o s end seen5 s6 5 all refl (λ z. omega arith) p5.rest in
      let s7 = s6 + length_at s s6 in
      let seen6 = seen_as 6 s6 ∷ seen5 in
      let p7 = peel o s end seen6 s7 6 all refl (λ z. omega arith) p6.rest in
      let is4 = section_of o s end (context_of seen at) at 4 p4.number p4.frame in
      let is5 = section_of o s end (context_of seen4 s5) s5 5 p5.number p5.frame in
      let is7 = section_of o s end (context_of seen6 s7) s7 7 p7.number p7.frame in
      let all4 = there inside is4 in
      let known' : Known format s (first_seen 4 at seen) (last_seen 3 seen) = rw (ef, e3) known in
      let self = itself s (first_seen 4 at seen) (last_seen 3 seen) at known' all4 (says.long_four s (context_of seen at) at p4.its_own) in
      let four = (says.four s (context_of seen at) at known' all4).0 p4.its_own in
      let five = (says.five s (context_of seen4 s5) s5 self (there inside is5)).0 p5.its_own in
      let seven = (says.seven s (context_of seen6 s7) s7 at self five (there inside is7)).0 p7.its_own in
      let l4 = p4.frame.long in
      let l5 = p5.frame.long in
      let l6 = p6.frame.long in
      let l7 = p7.frame.long in
      record {
        next = s7 + length_at s s7;
        cut = record { section3 = s3; section4 = at; section5 = s5; section7 = s7 };
        body =
            record {
              s5 = s5;
              s6 = s6;
              s7 = s7;
              four = is4;
              four_is =
                  subst (λ (f : ℕ). format.Four (section_at s f) (section_at s s3) (section_at s at)) ef
                  (subst (λ (g : ℕ). format.Four (section_at s (first_seen 4 at seen)) (section_at s g) (section_at s at)) e3 four);
              five = is5;
              five_is = subst (λ (g : ℕ). format.Five (section_at s g) (section_at s at) (section_at s s5)) e3 five;
              six = section6_of o s end (context_of seen5 s6) s6 p6.number p6.frame p6.its_own;
              seven = is7;
              seven_is = subst (λ (g : ℕ). format.Seven (section_at s g) (section_at s s5) (section_at s s7)) e3 seven;
              is = refl;
            };
        seen' = after_body at s5 s6 s7 seen;
        rest = p7.rest;
        further = omega arith;
        inside = p7.frame.reach;
        seven = refl;
        same3 = e3;
        same4 = λ d. ef;
        more = refl;
        cuts = ap (λ (k : ℕ). cuts_of seen ++ (record { section3 = k; section4 = at; section5 = s5; section7 = s7 } ∷ [])) e3;
      }

  -- ── all the cuts after the first ──

  -- a cut may begin: fewer than 64 are complete
  fewer : (s : List ℕ) (seen : List Seen) (at n : ℕ) → room_for_cut s (context_of seen at) at ≡ true → number_at s at ≡ n → (eqb n 3 || eqb n 4) ≡ true → cuts_seen seen < 64
  unfolding room_for_cut context_of
  fewer s seen at n h e k = go (leb 64 (cuts_seen seen)) refl (rw e at h)
    where
      go : (t : Bool) → leb 64 (cuts_seen seen) ≡ t → not (leb 64 (cuts_seen seen) && (eqb n 3 || eqb n 4)) ≡ true → cuts_seen seen < 64
      go true p q = absurd (false≢true (rw (p, k) at q))
      go false p q = leb-false _ _ p

  record CutsOff (s : List ℕ) (end : ℕ) (first s3 : ℕ) (seen : List Seen) (at : ℕ) (all : List Seen) : Type 0 where
    pub cs : List Cut
    pub cuts : Cuts format s end first s3 at cs
    pub all_are : cuts_of all ≡ cuts_of seen ++ cs
    pub few : cuts_seen all ≤ 64
    pub eight : meets_all s end rules8 ≡ true

  abbrev CutsFrom : ℕ → List ℕ → ℕ → ℕ → List Seen → Type 0
  CutsFrom f s end first all =
      (s3 : ℕ) → Known format s first s3 → (seen : List Seen) (at : ℕ) → end < at + f → at ≤ end → previous seen ≡ 7 → last_seen 3 seen ≡ s3 → ((d : ℕ) → first_seen 4 d seen ≡ first)
      → cuts_seen seen ≤ 64 → Rest o s end seen at all → CutsOff s end first s3 seen at all

  -- one cut put before those that follow it
  joined : (s : List ℕ) (end : ℕ) (first s3 : ℕ) (seen seen' : List Seen) (at : ℕ) (all : List Seen) (b : BodyOff s end first s3 seen' at all)
      → cuts_of seen' ≡ cuts_of seen → (c : CutsOff s end first s3 b.seen' b.next all) → cuts_of all ≡ cuts_of seen ++ (b.cut ∷ c.cs)
  joined s end first s3 seen seen' at all b e c =
      c.all_are
      ∙ ap (λ (l : List Cut). l ++ c.cs) (b.cuts ∙ ap (λ (l : List Cut). l ++ (b.cut ∷ [])) e)
      ∙ append_assoc (cuts_of seen) (b.cut ∷ []) c.cs

  -- a cut of 4 5 6 7
  shared_off : (f : ℕ) (s : List ℕ) (end : ℕ) → end ≤ length s → (first : ℕ) (all : List Seen) → CutsFrom f s end first all
      → (s3 : ℕ) → Known format s first s3 → (seen : List Seen) (at : ℕ) → end < at + suc f → last_seen 3 seen ≡ s3 → ((d : ℕ) → first_seen 4 d seen ≡ first)
      → Peeled o s end seen at 4 all → CutsOff s end first s3 seen at all
  shared_off f s end inside first all go s3 known seen at reach e3 ef p =
      let b = body_off s end inside first s3 known seen at all (ef at) e3 p in
      let lt = fewer s seen at 4 p.roomy p.number refl in
      let further = b.further in
      let more = b.more in
      let c = go s3 known b.seen' b.next (omega arith) b.inside b.seven b.same3 b.same4 (omega arith) b.rest in
      record {
        cs = b.cut ∷ c.cs;
        cuts = same_3 b.body c.cuts;
        all_are = joined s end first s3 seen seen at all b refl c;
        few = c.few;
        eight = c.eight;
      }

  -- a cut of 3 4 5 6 7
  own_off : (f : ℕ) (s : List ℕ) (end : ℕ) → end ≤ length s → (first : ℕ) (all : List Seen) → CutsFrom f s end first all
      → (s3 : ℕ) → Known format s first s3 → (seen : List Seen) (at : ℕ) → end < at + suc f → ((d : ℕ) → first_seen 4 d seen ≡ first)
      → Peeled o s end seen at 3 all → CutsOff s end first s3 seen at all
  unfolding last_seen first_seen cuts_seen cuts_of section_checks
  own_off f s end inside first all go s3 known seen at reach ef p =
      let s4 = at + length_at s at in
      let seen3 = seen_as 3 at ∷ seen in
      let three = section_of o s end (context_of seen at) at 3 p.number p.frame in
      let three_is = (says.three s (context_of seen at) at (there inside three)).0 p.its_own in
      let known' : Known format s first at = record { long4 = known.long4; three = three_is } in
      let p4 = peel o s end seen3 s4 3 all refl (λ z. omega arith) p.rest in
      let b = body_off s end inside first at known' seen3 s4 all (ef s4) refl p4 in
      let lt = fewer s seen at 3 p.roomy p.number refl in
      let l3 = p.frame.long in
      let further = b.further in
      let more = b.more in
      let c = go at known' b.seen' b.next (omega arith) b.inside b.seven b.same3 b.same4 (omega arith) b.rest in
      record {
        cs = b.cut ∷ c.cs;
        cuts = new_3 three three_is b.body c.cuts;
        all_are = joined s end first at seen seen3 s4 all b refl c;
        few = c.few;
        eight = c.eight;
      }

  cuts_off : (f : ℕ) (s : List ℕ) (end : ℕ) → end ≤ length s → (first : ℕ) (all : List Seen) → CutsFrom f s end first all
  cuts_off zero s end inside first all s3 known seen at reach le e7 e3 ef few r = absurd (omega arith)
  cuts_off (suc f) s end inside first all s3 known seen at reach le e7 e3 ef few (stop there h) =
      let k = closed_of o s end seen at there h in
      record {
        cs = [];
        cuts = subst (λ (a : ℕ). Cuts format s end first s3 a []) (sym there) none;
        all_are = sym (append-nil (cuts_of seen));
        few = few;
        eight = subst (λ (a : ℕ). meets_all s a rules8 ≡ true) there k.eight;
      }
  cuts_off (suc f) s end inside first all s3 known seen at reach le e7 e3 ef few (step open_end h r) =
      let k = clean o s end (context_of seen at) at open_end h in
      let fr = framed_is s end (context_of seen at) at k.frame in
      let n = subst (λ (q : ℕ). Follow q (number_at s at)) e7 (allowed_is s end seen at fr) in
      after_seven (number_at s at) n
      (λ e. own_off f s end inside first all (cuts_off f s end inside first all) s3 known seen at reach ef (peeled o s end seen at 3 all e k r))
      (λ e. shared_off f s end inside first all (cuts_off f s end inside first all) s3 known seen at reach e3 ef (peeled o s end seen at 4 all e k r))

  -- ── back: one section on the front ──

  push : (s : List ℕ) (end : ℕ) (seen : List Seen) (at n p next : ℕ) (all : List Seen) → previous seen ≡ p → follows p n ≡ true → Section s end n at next
      → cuts_seen seen < 64 → AllHold (section_checks o s (context_of seen at) at n) → Rest o s end (seen_as n at ∷ seen) next all → Rest o s end seen at all
  unfolding room_for_cut context_of
  push s end seen at n p next all e may sec few h r =
      let some = sec.some in
      let up_to = sec.up_to in
      let inside = sec.inside in
      let allowed : follows (previous seen) (number_at s at) ≡ true = rw (e, sec.number) may in
      let fr : Framed s end (context_of seen at) at = record { five = omega arith; long = some; reach = omega arith; allowed = allowed } in
      let k : Clean o s end (context_of seen at) at =
      record {
        frame = framed_of s end (context_of seen at) at fr;
        roomy = rw (lt-leb 64 (cuts_seen seen) few);
        its_own = subst (λ (m : ℕ). AllHold (section_checks o s (context_of seen at) at m)) (sym sec.number) h;
      } in
      let open_end : at ≡ end → ⊥ = λ z. omega arith in
      let moved = subst (λ (b : ℕ). Rest o s end (seen_as n at ∷ seen) b all) (sym up_to) r in
      step open_end (cleaned o s end (context_of seen at) at open_end k)
      (subst (λ (m : ℕ). Rest o s end (seen_as m at ∷ seen) (at + length_at s at) all) (sym sec.number) moved)

  body_on : (s : List ℕ) (end : ℕ) → end ≤ length s → (first s3 : ℕ) → Known format s first s3 → (seen : List Seen) (at : ℕ) (c : Cut) (next p : ℕ) (all : List Seen) (b : Body format s end first s3 at c next)
      → previous seen ≡ p → follows p 4 ≡ true → first_seen 4 at seen ≡ first → last_seen 3 seen ≡ s3 → cuts_seen seen < 64
      → Rest o s end (after_body at b.s5 b.s6 b.s7 seen) next all → Rest o s end seen at all
  unfolding context_of last_seen first_seen cuts_seen follows section_checks
  body_on s end inside first s3 known seen at c next p all b e may ef e3 few r =
      let s5 = b.s5 in
      let s6 = b.s6 in
      let s7 = b.s7 in
      let seen4 = seen_as 4 at ∷ seen in
      let seen5 = seen_as 5 s5 ∷ seen4 in
      let seen6 = seen_as 6 s6 ∷ seen5 in
      let all4 = there inside b.four in
      let m4 = says.four_long _ _ _ b.four_is in
      let known' : Known format s (first_seen 4 at seen) (last_seen 3 seen) = rw (ef, e3) known in
      let self = itself s (first_seen 4 at seen) (last_seen 3 seen) at known' all4 (omega arith) in
      let four : format.Four (section_at s (first_seen 4 at seen)) (section_at s (last_seen 3 seen)) (section_at s at) = rw (ef, e3) b.four_is in
      let five : format.Five (section_at s (last_seen 3 seen)) (section_at s at) (section_at s s5) = rw e3 b.five_is in
      let seven : format.Seven (section_at s (last_seen 3 seen)) (section_at s s5) (section_at s s7) = rw e3 b.seven_is in
      push s end seen at 4 p s5 all e may b.four few ((says.four s (context_of seen at) at known' all4).1 four)
      (push s end seen4 s5 5 4 s6 all refl refl b.five few ((says.five s (context_of seen4 s5) s5 self (there inside b.five)).1 five)
      (push s end seen5 s6 6 5 s7 all refl refl b.six.here few (own6 o s end (context_of seen5 s6) s6 b.six)
      (push s end seen6 s7 7 6 next all refl refl b.seven few ((says.seven s (context_of seen6 s7) s7 at self five (there inside b.seven)).1 seven) r)))

  -- the cuts of a history with one body more
  body_cuts : (first s3 at next : ℕ) (s : List ℕ) (end : ℕ) (seen : List Seen) (c : Cut) (b : Body format s end first s3 at c next) → last_seen 3 seen ≡ s3
      → cuts_of (after_body at b.s5 b.s6 b.s7 seen) ≡ cuts_of seen ++ (c ∷ [])
  unfolding cuts_of last_seen
  body_cuts first s3 at next s end seen c b e =
      ap (λ (k : ℕ). cuts_of seen ++ (record { section3 = k; section4 = at; section5 = b.s5; section7 = b.s7 } ∷ [])) e
      ∙ ap (λ (x : Cut). cuts_of seen ++ (x ∷ [])) (sym b.is)

  cuts_on : (s : List ℕ) (end : ℕ) → end ≤ length s → (first s3 : ℕ) → Known format s first s3 → (seen : List Seen) (at : ℕ) (cs : List Cut) → Cuts format s end first s3 at cs → meets_all s end rules8 ≡ true
      → previous seen ≡ 7 → last_seen 3 seen ≡ s3 → ((d : ℕ) → first_seen 4 d seen ≡ first) → cuts_seen seen + length cs ≤ 64
      → CutsOn o s end seen at cs
  unfolding last_seen first_seen cuts_seen cuts_of follows section_checks
  cuts_on s end inside first s3 known seen at cs none eight e7 e3 ef few =
      record { all = seen; rest = stop refl (of_closed o s end seen end refl (record { seven = e7; eight = eight })); all_are = sym (append-nil (cuts_of seen)) }
  cuts_on s end inside first s3 known seen at cs (new_3 {b = s4} {next = next} {c = c} {cs = ds} three three_is b r) eight e7 e3 ef few =
      let seen3 = seen_as 3 at ∷ seen in
      let lt : cuts_seen seen < 64 = omega arith in
      let known' : Known format s first at = record { long4 = known.long4; three = three_is } in
      let k = cuts_on s end inside first at known' (after_body s4 b.s5 b.s6 b.s7 seen3) next ds r eight refl refl (λ d. ef s4) (omega arith) in
      record {
        all = k.all;
        rest =
            push s end seen at 3 7 s4 k.all e7 refl three lt ((says.three s (context_of seen at) at (there inside three)).1 three_is)
            (body_on s end inside first at known' seen3 s4 c next 3 k.all b refl refl (ef s4) refl lt k.rest);
        all_are =
            k.all_are
            ∙ ap (λ (l : List Cut). l ++ ds) (body_cuts first at s4 next s end seen3 c b refl)
            ∙ append_assoc (cuts_of seen) (c ∷ []) ds;
      }
  cuts_on s end inside first s3 known seen at cs (same_3 {next = next} {c = c} {cs = ds} b r) eight e7 e3 ef few =
      let lt : cuts_seen seen < 64 = omega arith in
      let k = cuts_on s end inside first s3 known (after_body at b.s5 b.s6 b.s7 seen) next ds r eight refl e3 (λ d. ef at) (omega arith) in
      record {
        all = k.all;
        rest = body_on s end inside first s3 known seen at c next 7 k.all b e7 refl (ef at) e3 lt k.rest;
        all_are =
            k.all_are
            ∙ ap (λ (l : List Cut). l ++ ds) (body_cuts first s3 at next s end seen c b e3)
            ∙ append_assoc (cuts_of seen) (c ∷ []) ds;
      }

  -- ── the whole file past section 0 ──

  pub past_off : (s : List ℕ) (end : ℕ) → end ≤ length s → (all : List Seen) → cuts_seen all ≡ length (cuts_of all) → Rest o s end [] 16 all → AfterZero format s end (cuts_of all)
  unfolding last_seen first_seen cuts_seen cuts_of section_checks
  past_off s end inside all count r =
      let p1 = peel o s end [] 16 0 all refl (λ z. omega arith) r in
      let s3 = 16 + length_at s 16 in
      let seen1 = seen_as 1 16 ∷ [] in
      let p3 = peel o s end seen1 s3 1 all refl (λ z. omega arith) p1.rest in
      let s4 = s3 + length_at s s3 in
      let seen3 = seen_as 3 s3 ∷ seen1 in
      let p4 = peel o s end seen3 s4 3 all refl (λ z. omega arith) p3.rest in
      let three = section_of o s end (context_of seen1 s3) s3 3 p3.number p3.frame in
      let three_is = (says.three s (context_of seen1 s3) s3 (there inside three)).0 p3.its_own in
      let is4 = section_of o s end (context_of seen3 s4) s4 4 p4.number p4.frame in
      let all4 = there inside is4 in
      let m4 = says.long_four s (context_of seen3 s4) s4 p4.its_own in
      let known : Known format s s4 s3 = record { long4 = omega arith; three = three_is } in
      let b = body_off s end inside s4 s3 known seen3 s4 all refl refl p4 in
      let more = b.more in
      let c = cuts_off (suc end) s end inside s4 all s3 known b.seen' b.next (omega arith) b.inside b.seven b.same3 b.same4 (omega arith) b.rest in
      let few = c.few in
      record {
        s3 = s3;
        s4 = s4;
        next = b.next;
        cut = b.cut;
        later = c.cs;
        one = section1_of o s end (context_of [] 16) 16 p1.number p1.frame p1.its_own;
        three = three;
        three_is = three_is;
        body = b.body;
        cuts = c.cuts;
        few = omega arith;
        eight = c.eight;
        are = c.all_are ∙ ap (λ (l : List Cut). l ++ c.cs) b.cuts;
      }

  pub past_on : (s : List ℕ) (end : ℕ) → end ≤ length s → (cs : List Cut) → AfterZero format s end cs → CutsOn o s end [] 16 cs
  unfolding last_seen first_seen cuts_seen cuts_of follows section_checks
  past_on s end inside cs w =
      let s3 = w.s3 in
      let s4 = w.s4 in
      let b = w.body in
      let seen1 = seen_as 1 16 ∷ [] in
      let seen3 = seen_as 3 s3 ∷ seen1 in
      let len = ap length w.are in
      let few = w.few in
      let known : Known format s s4 s3 = record { long4 = says.four_long _ _ _ b.four_is; three = w.three_is } in
      let k = cuts_on s end inside s4 s3 known (after_body s4 b.s5 b.s6 b.s7 seen3) w.next w.later w.cuts w.eight refl refl (λ d. refl) (omega arith) in
      record {
        all = k.all;
        rest =
            push s end [] 16 1 0 s3 k.all refl refl w.one.here (omega arith) (own1 o s end (context_of [] 16) 16 w.one)
            (push s end seen1 s3 3 1 s4 k.all refl refl w.three (omega arith) ((says.three s (context_of seen1 s3) s3 (there inside w.three)).1 w.three_is)
            (body_on s end inside s4 s3 known seen3 s4 w.cut w.next 3 k.all b refl refl refl refl (omega arith) k.rest));
        all_are = k.all_are ∙ ap (λ (l : List Cut). l ++ w.later) (body_cuts s4 s3 s4 w.next s end seen3 w.cut b refl) ∙ sym w.are;
      }
