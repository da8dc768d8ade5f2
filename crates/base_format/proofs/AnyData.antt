-- How a file that passes every check but 8 differs from an accepted one: in what its cuts' data decodes to, and in nothing else. An accepted file passes, with
-- the same cuts; one that passes is accepted where each cut's data gives its bins; and one that is refused by another number than 8 is refused by just that.
use Prim.Native.Nat.{ℕ, suc, ◌<◌}
use mathlib.Core.Path.{◌≡◌, refl, sym, ap, subst}
use mathlib.Core.Bool.{Bool, true, false, cond}
use mathlib.Core.List.{List, [], ◌∷◌}
use native.Mathlib.Omega.{arith}
use borrow.Author.Tests.{eqb-true}
use lib.Dec.{eqb}
use lib.ListN.{length, drop, get_or}
use Rattle.rules.specs.Fields.{points_at, number_at}
use Rattle.base_format.specs.Fields.{greatest_at}
use Rattle.runs.specs.Runs.{Exactly}
use Rattle.sections.specs.Refusal.{number_of}
use Rattle.sections.specs.Checks.{Check, check, framed, room_for_cut, closes, checks1, checks6, section_checks, checks_at}
use Rattle.sections.specs.declared.Context.{Context}
use Rattle.sections.specs.History.{Seen, context_of}
use Rattle.sections.specs.Refused.{AllHold, FirstFails, this, later, Passed, first, then, RefusedBy, size, head, section}
use Rattle.sections.specs.Verdict.{end_of, accepted, refused, default_cut}
use Rattle.sections.specs.Accepted.{Body, Cuts, none, new_3, same_3, AfterZero, section_at}
use Rattle.sections.specs.declared.Cut.{Cut}
use Rattle.sections.specs.declared.Refusal.{Refusal}
use Rattle.sections.specs.Refusal.{refuse}
use Rattle.sections.specs.declared.Why.TheVariants.{Frame, CutCount, Data}
use Rattle.base_format.specs.Checks.{checks3, checks4, checks5, data_fault, checks7, base_checks, any_data_checks7, any_data_checks}
use Rattle.base_format.specs.Verdict.{verdict, any_data_verdict}
use Rattle.base_format.specs.Accepted.{base_format, Accepted, any_data_format, AcceptedAnyData}
use Rattle.base_format.proofs.Exact.{exact, any_exact}

module _ (s : List ℕ) (end : ℕ) where
  pub body : {first s3 at next : ℕ} {c : Cut} → Body base_format s end first s3 at c next → Body any_data_format s end first s3 at c next
  body b = record {
    s5 = b.s5;
    s6 = b.s6;
    s7 = b.s7;
    four = b.four;
    four_is = b.four_is;
    five = b.five;
    five_is = b.five_is;
    six = b.six;
    seven = b.seven;
    seven_is = record { long = b.seven_is.long };
    is = b.is;
  }

  cuts : {first s3 at : ℕ} {cs : List Cut} → Cuts base_format s end first s3 at cs → Cuts any_data_format s end first s3 at cs
  cuts none = none
  cuts (new_3 h t b k) = new_3 h t (body b) (cuts k)
  cuts (same_3 b k) = same_3 (body b) (cuts k)

  past : {cs : List Cut} → AfterZero base_format s end cs → AfterZero any_data_format s end cs
  past p = record {
    s3 = p.s3;
    s4 = p.s4;
    next = p.next;
    cut = p.cut;
    later = p.later;
    one = p.one;
    three = p.three;
    three_is = p.three_is;
    body = body p.body;
    cuts = cuts p.cuts;
    few = p.few;
    eight = p.eight;
    are = p.are;
  }

pub any_accepted : (s : List ℕ) (cs : List Cut) → Accepted s cs → AcceptedAnyData s cs
any_accepted s cs a = record { small = a.small; large = a.large; zero = a.zero; past = past s (end_of s) a.past }

pub any_same : (s : List ℕ) (cs : List Cut) → verdict s ≡ accepted cs → any_data_verdict s ≡ accepted cs
any_same s cs e = any_exact.accepted_all s cs (any_accepted s cs (exact.accepted_only s cs e))

-- ── and back: where each cut's data gives its bins ──

abbrev pub DataRight : List ℕ → Cut → Type 0
DataRight s c = Exactly (greatest_at (section_at s c.section5) 0) (points_at (section_at s c.section3) 0) (drop 5 (section_at s c.section7))

abbrev AllRight : List ℕ → List Cut → Type 0
AllRight s cs = (i : ℕ) → i < length cs → DataRight s (get_or cs i default_cut)

rest_right : (s : List ℕ) (c : Cut) (cs : List Cut) → AllRight s (c ∷ cs) → AllRight s cs
rest_right s c cs d i lt = d (suc i) (omega arith)

module _ (s : List ℕ) (end : ℕ) where
  full_body : {first s3 at next : ℕ} {c : Cut} → DataRight s c → Body any_data_format s end first s3 at c next → Body base_format s end first s3 at c next
  full_body d b = record {
    s5 = b.s5;
    s6 = b.s6;
    s7 = b.s7;
    four = b.four;
    four_is = b.four_is;
    five = b.five;
    five_is = b.five_is;
    six = b.six;
    seven = b.seven;
    seven_is = record { long = b.seven_is.long; bins = subst (DataRight s) b.is d };
    is = b.is;
  }

  full_cuts : {first s3 at : ℕ} {cs : List Cut} → AllRight s cs → Cuts any_data_format s end first s3 at cs → Cuts base_format s end first s3 at cs
  full_cuts d none = none
  full_cuts d (new_3 {c = c} {cs = cs} h t b k) = new_3 h t (full_body (d 0 (omega arith)) b) (full_cuts (rest_right s c cs d) k)
  full_cuts d (same_3 {c = c} {cs = cs} b k) = same_3 (full_body (d 0 (omega arith)) b) (full_cuts (rest_right s c cs d) k)

  full_past : {cs : List Cut} → AllRight s cs → AfterZero any_data_format s end cs → AfterZero base_format s end cs
  full_past {cs} d p = record {
    s3 = p.s3;
    s4 = p.s4;
    next = p.next;
    cut = p.cut;
    later = p.later;
    one = p.one;
    three = p.three;
    three_is = p.three_is;
    body = full_body (all 0 (omega arith)) p.body;
    cuts = full_cuts (rest_right s p.cut p.later all) p.cuts;
    few = p.few;
    eight = p.eight;
    are = p.are;
  }
    where
      all : AllRight s (p.cut ∷ p.later)
      all = subst (AllRight s) p.are d

pub accepted_any : (s : List ℕ) (cs : List Cut) → AcceptedAnyData s cs → AllRight s cs → Accepted s cs
accepted_any s cs a d = record { small = a.small; large = a.large; zero = a.zero; past = full_past s (end_of s) d a.past }

-- ── a refusal other than 8 stands ──

-- what turns checks O into O' does so behind other checks
behind : (P : List Check → Type 0) (b : Bool) (X O O' : List Check) → (P O → P O') → P (cond b X O) → P (cond b X O')
behind P true X O O' f h = h
behind P false X O O' f h = f h

two_hold : (c d : Check) (O O' : List Check) → (AllHold O → AllHold O') → AllHold (c ∷ d ∷ O) → AllHold (c ∷ d ∷ O')
two_hold (check q a) (check r b) O O' f h = (h.0, (h.1.0, f h.1.1))

two_fail : (r : Refusal) (c d : Check) (O O' : List Check) → (FirstFails r O → FirstFails r O') → FirstFails r (c ∷ d ∷ O) → FirstFails r (c ∷ d ∷ O')
two_fail r c d O O' f (this e) = this e
two_fail r c d O O' f (later p (this e)) = later p (this e)
two_fail r c d O O' f (later p (later q h)) = later p (later q (f h))

alone : (r q : Refusal) (b : Bool) → FirstFails r (check q b ∷ []) → q ≡ r
alone r q b (this e) = refl
alone r q b (later p h) = elim h [ ]

but_second : (r : Refusal) (c : Check) (q : Refusal) (b : Bool) → (q ≡ r → ⊥) → FirstFails r (c ∷ check q b ∷ []) → FirstFails r (c ∷ [])
but_second r c q b n (this e) = this e
but_second r c q b n (later p f) = absurd (n (alone r q b f))

module _ (s : List ℕ) where
  module _ (P : List Check → Type 0) (x : Context) (at : ℕ) (seven : P (checks7 s x at) → P (any_data_checks7 s at)) where
    own_any : (n : ℕ) → P (base_checks s x at n) → P (any_data_checks s x at n)
    unfolding base_checks any_data_checks
    own_any n h = go (eqb n 7) refl
      where
        go : (t : Bool) → eqb n 7 ≡ t → P (cond t (any_data_checks7 s at) (base_checks s x at n))
        go true e = seven (subst (λ (m : ℕ). P (base_checks s x at m)) (eqb-true n 7 e) h)
        go false e = h

    section_any : (n : ℕ) → P (section_checks base_checks s x at n) → P (section_checks any_data_checks s x at n)
    unfolding section_checks
    section_any n =
        behind P (eqb n 1) (checks1 s at) (cond (eqb n 6) (checks6 s at) (base_checks s x at n)) (cond (eqb n 6) (checks6 s at) (any_data_checks s x at n))
        (behind P (eqb n 6) (checks6 s at) (base_checks s x at n) (any_data_checks s x at n) (own_any n))

  module _ (end : ℕ) where
    module _ (x : Context) (at : ℕ) where
      abbrev frame : Check
      frame = check (refuse Frame at) (framed s end x at)

      abbrev cut : Check
      cut = check (refuse CutCount at) (room_for_cut s x at)

      abbrev before : List Check
      before = section_checks base_checks s x at (number_at s at)

      abbrev after : List Check
      after = section_checks any_data_checks s x at (number_at s at)

      holds_any : AllHold (checks_at base_checks s end x at) → AllHold (checks_at any_data_checks s end x at)
      unfolding checks_at
      holds_any =
          behind AllHold (eqb at end) (check (refuse Frame at) (closes s x at) ∷ []) (frame ∷ cut ∷ before) (frame ∷ cut ∷ after)
          (two_hold frame cut before after (section_any AllHold x at (λ h. (h.0, tt)) (number_at s at)))

      fails_any : (r : Refusal) → (number_of r.why ≡ 8 → ⊥) → FirstFails r (checks_at base_checks s end x at) → FirstFails r (checks_at any_data_checks s end x at)
      unfolding checks_at refuse
      fails_any r other =
          behind (FirstFails r) (eqb at end) (check (refuse Frame at) (closes s x at) ∷ []) (frame ∷ cut ∷ before) (frame ∷ cut ∷ after)
          (two_fail r frame cut before after
          (section_any (FirstFails r) x at (but_second r _ (refuse Data (data_fault s x at)) _ (λ e. other (sym (ap (λ (x : Refusal). number_of x.why) e)))) (number_at s at)))

    passed_any : {seen : List Seen} {at : ℕ} → Passed base_checks s end seen at → Passed any_data_checks s end seen at
    passed_any first = first
    passed_any (then {seen = seen} {at = at} p n h) = then (passed_any p) n (holds_any (context_of seen at) at h)

pub refused_any : (s : List ℕ) (r : Refusal) → (number_of r.why ≡ 8 → ⊥) → RefusedBy base_checks s r → RefusedBy any_data_checks s r
refused_any s r other (size h) = size h
refused_any s r other (head z h) = head z h
refused_any s r other (section {seen = seen} {at = at} z m p f) = section z m (passed_any s (end_of s) p) (fails_any s (end_of s) (context_of seen at) at r other f)

pub other_same : (s : List ℕ) (r : Refusal) → (number_of r.why ≡ 8 → ⊥) → verdict s ≡ refused r → any_data_verdict s ≡ refused r
other_same s r other e = any_exact.refused_all s r (refused_any s r other (exact.refused_only s r e))

-- ── and 8 is never given ──

-- none of these checks is 8's
abbrev pub NoEight : List Check → Type 0
NoEight [] = Unit {0}
NoEight (check q ok ∷ cs) = (eqb (number_of q.why) 8 ≡ false) × NoEight cs

of_both : (b : Bool) (X O : List Check) → NoEight X → NoEight O → NoEight (cond b X O)
of_both true X O h k = h
of_both false X O h k = k

pub not_eight : (r : Refusal) (cs : List Check) → NoEight cs → FirstFails r cs → eqb (number_of r.why) 8 ≡ false
not_eight r [] n h = elim h [ ]
not_eight r (check q ok ∷ cs) n (this e) = n.0
not_eight r (check q ok ∷ cs) n (later p f) = not_eight r cs n.1 f

module _ (s : List ℕ) (x : Context) (at : ℕ) where
  own_none : (n : ℕ) → NoEight (any_data_checks s x at n)
  unfolding base_checks any_data_checks refuse
  own_none n = go (eqb n 7) refl
    where
      four : (n : ℕ) (t : Bool) → t ≡ false → NoEight (cond (eqb n 3) (checks3 s at) (cond (eqb n 4) (checks4 s x at) (cond (eqb n 5) (checks5 s x at) (cond t (checks7 s x at) []))))
      four n true e = absurd (let w : ◌≡◌ {A = ℕ} 0 1 = cc e in omega arith)
      four n false e =
          of_both (eqb n 3) (checks3 s at) _ (refl, (refl, (refl, tt)))
          (of_both (eqb n 4) (checks4 s x at) _ (refl, (refl, tt))
          (of_both (eqb n 5) (checks5 s x at) [] (refl, (refl, (refl, (refl, tt)))) tt))

      go : (t : Bool) → eqb n 7 ≡ t → NoEight (cond t (any_data_checks7 s at) (base_checks s x at n))
      go true e = (refl, tt)
      go false e = four n (eqb n 7) e

  none_at : (end : ℕ) → NoEight (checks_at any_data_checks s end x at)
  unfolding checks_at section_checks refuse
  none_at end =
      of_both (eqb at end) (check (refuse Frame at) (closes s x at) ∷ []) _ (refl, tt)
      (refl, (refl, of_both (eqb (number_at s at) 1) (checks1 s at) _ (refl, (refl, tt)) (of_both (eqb (number_at s at) 6) (checks6 s at) _ (refl, (refl, tt)) (own_none (number_at s at)))))

pub never_eight : (s : List ℕ) (r : Refusal) → RefusedBy any_data_checks s r → eqb (number_of r.why) 8 ≡ false
unfolding refuse
never_eight s r (size h) = refl
never_eight s r (head z h) = refl
never_eight s r (section {seen = seen} {at = at} z m p f) = not_eight r _ (none_at s (context_of seen at) at (end_of s)) f
