-- WHICH OCTET IS BAD. A file is refused by 8 at a place exactly where a section 7 is judged, is long enough and has an octet at fault, and the place is that octet's, counted in the file. By demand 1 every call
-- on a file gives that refusal. The idea: of all checks at a place only the last of a section 7 is 8's.
use Prim.Native.Nat.{ℕ, ◌+◌, ◌≤◌}
use mathlib.Core.Path.{◌≡◌, refl, sym, ap, subst, ◌∙◌}
use mathlib.Core.Logic.{◌↔◌}
use mathlib.Core.List.{List, [], ◌∷◌}
use mathlib.Core.Bool.{Bool, true, false, false≢true, cond, not, ◌&&◌}
use native.Mathlib.Omega.{arith}
use borrow.Author.Tests.{leb-true, le-leb, eqb-true, ne_eqb}
use lib.Dec.{leb, eqb}
use lib.ListN.{length}
use Rattle.rules.specs.Rules.{meets_all, rules0}
use Rattle.rules.specs.Fields.{length_at, number_at, points_at}
use Rattle.runs.specs.Run.{gives, fault_at}
use Rattle.runs.specs.Runs.{AtFault}
use Rattle.runs.proofs.Fault.{gives_fault, fault_gives, fault_only}
use Rattle.sections.specs.Refusal.{number_of, refuse}
use Rattle.sections.specs.Checks.{Check, check, framed, room_for_cut, closes, checks1, checks6, section_checks, checks_at}
use Rattle.sections.specs.History.{Seen, last_seen, context_of}
use Rattle.sections.specs.Refused.{FirstFails, this, later, RightSize, RefusedBy, size, head, section}
use Rattle.sections.specs.Verdict.{end_of}
use Rattle.sections.specs.declared.Context.{Context}
use Rattle.sections.specs.declared.Refusal.{Refusal}
use Rattle.sections.specs.declared.Why.{Why}
use Rattle.sections.specs.declared.Why.TheVariants.{FileSize, Section0, Frame, SectionLength, CutCount, Data}
use Rattle.sections.proofs.Framed.{framed_is}
use Rattle.base_format.specs.Fields.{greatest_at}
use Rattle.base_format.specs.Parts.{data_at}
use Rattle.base_format.specs.Checks.{checks3, checks4, checks5, checks7, base_checks}
use Rattle.base_format.proofs.AnyData.{NoEight, not_eight}
use Rattle.demands.proofs.NoTwelve.{AtSeven}

-- the octet at fault of a file: its size and section 0 are right, the sections before a 7 pass, that one has data, and the data has its fault at offset i
pub record FaultIn (s : List ℕ) (p : ℕ) : Type 0 where
  pub right : RightSize s
  pub zero : meets_all s 0 (rules0 (length s)) ≡ true
  pub seen : List Seen
  pub at : ℕ
  pub seven : AtSeven base_checks s seen at
  pub long : 6 ≤ length_at s at
  pub i : ℕ
  pub fault : AtFault (greatest_at s (last_seen 5 seen)) (points_at s (last_seen 3 seen)) (data_at s at) i
  pub is : p ≡ at + 5 + i

-- ── from the refusal ──

past_first : {r q : Refusal} {a : Bool} {cs : List Check} → (r ≡ q → ⊥) → FirstFails r (check q a ∷ cs) → (a ≡ true) × FirstFails r cs
past_first n (this e) = absurd (n refl)
past_first n (later e f) = (e, f)

alone : {r q : Refusal} {a : Bool} → FirstFails r (check q a ∷ []) → (r ≡ q) × (a ≡ false)
alone (this e) = (refl, e)
alone (later e f) = elim f [ ]

module _ (s : List ℕ) (p : ℕ) where
  -- another number's refusal
  other : (w : Why) (q : ℕ) → (number_of w ≡ 8 → ⊥) → refuse Data p ≡ refuse w q → ⊥
  unfolding refuse
  other w q n e = n (sym (ap (λ (x : Refusal). number_of x.why) e))

  -- checks that are not 8's
  none_of : (cs : List Check) → NoEight cs → FirstFails (refuse Data p) cs → ⊥
  unfolding refuse
  none_of cs n f = false≢true (sym (not_eight (refuse Data p) cs n f))

  -- and then others
  behind : {P : Type 0} (b : Bool) (X O : List Check) → NoEight X → (b ≡ false → FirstFails (refuse Data p) O → P) → FirstFails (refuse Data p) (cond b X O) → P
  behind true X O n f h = absurd (none_of X n h)
  behind false X O n f h = f refl h

  module _ (seen : List Seen) (at : ℕ) where
    abbrev x : Context
    x = context_of seen at

    -- what is known where the first check that fails is 8's
    record Found : Type 0 where
      frame : framed s (end_of s) x at ≡ true
      number : number_at s at ≡ 7
      long : leb 6 (length_at s at) ≡ true
      wrong : gives (greatest_at s (last_seen 5 seen)) (points_at s (last_seen 3 seen)) (data_at s at) ≡ false
      is : p ≡ at + 5 + fault_at (greatest_at s (last_seen 5 seen)) (points_at s (last_seen 3 seen)) (data_at s at)

    in_seven : framed s (end_of s) x at ≡ true → number_at s at ≡ 7 → FirstFails (refuse Data p) (checks7 s x at) → Found
    unfolding context_of refuse
    in_seven frame number f =
        let g = past_first (other SectionLength at (λ e. omega arith)) f in
        let h = alone g.1 in
        record { frame = frame; number = number; long = g.0; wrong = h.1; is = ap (λ (q : Refusal). q.place) h.0 }

    in_section : framed s (end_of s) x at ≡ true → FirstFails (refuse Data p) (section_checks base_checks s x at (number_at s at)) → Found
    unfolding section_checks base_checks refuse
    in_section frame =
        let n = number_at s at in
        behind (eqb n 1) (checks1 s at) _ (refl, (refl, tt)) (λ e1.
        behind (eqb n 6) (checks6 s at) _ (refl, (refl, tt)) (λ e6.
        behind (eqb n 3) (checks3 s at) _ (refl, (refl, (refl, tt))) (λ e3.
        behind (eqb n 4) (checks4 s x at) _ (refl, (refl, tt)) (λ e4.
        behind (eqb n 5) (checks5 s x at) _ (refl, (refl, (refl, (refl, tt)))) (λ e5.
        last (eqb n 7) refl)))))
      where
        last : (b : Bool) → eqb (number_at s at) 7 ≡ b → FirstFails (refuse Data p) (cond b (checks7 s x at) []) → Found
        last true e f = in_seven frame (eqb-true (number_at s at) 7 e) f
        last false e f = absurd (none_of [] tt f)

    at_place : FirstFails (refuse Data p) (checks_at base_checks s (end_of s) x at) → Found
    unfolding checks_at refuse
    at_place =
        behind (eqb at (end_of s)) (check (refuse Frame at) (closes s x at) ∷ []) _ (refl, tt) (λ e f.
        let g = past_first (other Frame at (λ e. omega arith)) f in
        let h = past_first (other CutCount at (λ e. omega arith)) g.1 in
        in_section g.0 h.1)

  to : (r : Refusal) → refuse Data p ≡ r → RefusedBy base_checks s r → FaultIn s p
  to r e (size h) = absurd (other FileSize 0 (λ z. omega arith) e)
  to r e (head h k) = absurd (other Section0 0 (λ z. omega arith) e)
  to r e (section {seen} {at} h k passed fails) =
      let f = at_place seen at (subst (λ (q : Refusal). FirstFails q (checks_at base_checks s (end_of s) (context_of seen at) at)) (sym e) fails) in
      record {
        right = h;
        zero = k;
        seen = seen;
        at = at;
        seven = record { passed = passed; frame = f.frame; number = f.number };
        long = leb-true 6 (length_at s at) f.long;
        i = fault_at (greatest_at s (last_seen 5 seen)) (points_at s (last_seen 3 seen)) (data_at s at);
        fault = gives_fault (greatest_at s (last_seen 5 seen)) (points_at s (last_seen 3 seen)) (data_at s at) f.wrong;
        is = f.is;
      }

-- ── and to it ──

no_cut : (b : Bool) → not (b && false) ≡ true
no_cut true = refl
no_cut false = refl

module _ (s : List ℕ) (p : ℕ) (k : FaultIn s p) where
  abbrev place : ℕ
  place = k.at

  abbrev there : Context
  there = context_of k.seen place

  abbrev top : ℕ
  top = greatest_at s (last_seen 5 k.seen)

  abbrev wanted : ℕ
  wanted = points_at s (last_seen 3 k.seen)

  room : room_for_cut s there place ≡ true
  unfolding room_for_cut
  room = rw k.seven.number (no_cut (leb 64 there.cuts))

  seventh : FirstFails (refuse Data p) (checks7 s there place)
  unfolding context_of
  seventh =
      subst (λ (q : ℕ). FirstFails (refuse Data q) (checks7 s there place)) (sym (k.is ∙ ap (λ (i : ℕ). place + 5 + i) (fault_only top wanted k.i (data_at s place) k.fault)))
      (later (le-leb 6 (length_at s place) k.long) (this ((fault_gives top wanted (data_at s place)).0 (k.i, k.fault))))

  own : FirstFails (refuse Data p) (section_checks base_checks s there place (number_at s place))
  unfolding section_checks base_checks
  own = rw k.seven.number seventh

  fails : FirstFails (refuse Data p) (checks_at base_checks s (end_of s) there place)
  unfolding checks_at
  fails = let five = (framed_is s (end_of s) there place k.seven.frame).five in
      rw (ne_eqb place (end_of s) (λ e. omega arith)) (later k.seven.frame (later room own))

  of : RefusedBy base_checks s (refuse Data p)
  of = section k.right k.zero k.seven.passed fails

pub fault_in_file : (s : List ℕ) (p : ℕ) → RefusedBy base_checks s (refuse Data p) ↔ FaultIn s p
fault_in_file s p = (to s p (refuse Data p) refl, of s p)
