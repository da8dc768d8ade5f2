-- THE THEOREM, of every format whose checks say what it says of its sections: its verdict accepts and refuses exactly the right files (`Exact`), so that
-- a reader who believes `AcceptedBy`, `RefusedBy` and the rule lists needs to believe nothing else of the layout.
use Prim.Native.Nat.{ℕ}
use mathlib.Core.Path.{◌≡◌, refl, sym, ◌∙◌, ap, subst}
use mathlib.Core.List.{List, []}
use mathlib.Core.Bool.{Bool, true, false, false≢true}
use native.Mathlib.Omega.{arith}
use borrow.Author.Tests.{leb-true, le-leb}
use lib.ListN.{length}
use lib.Dec.{leb}
use Rattle.rules.specs.Rules.{meets_all, rules0}
use Rattle.rules.proofs.Chains.{and_true_both}
use Rattle.sections.specs.Refusal.{number_of, refuse}
use Rattle.sections.specs.Checks.{FormatChecks}
use Rattle.sections.specs.Verdict.{accepted, refused, sections, end_of, sized, verdict_by}
use Rattle.sections.specs.History.{cuts_of}
use Rattle.sections.specs.Accepted.{Format, AcceptedBy, AfterZero}
use Rattle.sections.specs.Refused.{RightSize, RefusedBy, size, head, section, RefusedAt, first}
use Rattle.sections.specs.declared.Cut.{Cut}
use Rattle.sections.specs.declared.Refusal.{Refusal}
use Rattle.sections.specs.declared.Why.TheVariants.{FileSize, Section0}
use Rattle.sections.specs.Exact.{Exact}
use Rattle.sections.proofs.Sections.{accepted_same, refused_same, refused_not_accepted, stopped, refuses, through, accepts as sections-accept, count_cuts}
use Rattle.sections.proofs.Says.{Says}
use Rattle.sections.proofs.Grammar.{past_off, past_on}

-- ── the size ──

pub right_size : (s : List ℕ) → sized s ≡ true → RightSize s
unfolding sized
right_size s h =
    let z = and_true_both (leb 20 (length s)) (leb (length s) 8388608) h in
    record { small = leb-true _ _ z.0; large = leb-true _ _ z.1 }

pub size_right : (s : List ℕ) → RightSize s → sized s ≡ true
unfolding sized
size_right s r = rw (le-leb 20 (length s) r.small, le-leb (length s) 8388608 r.large)

-- ── the verdict by its three parts ──

module _ (o : FormatChecks) (s : List ℕ) where
  pub verdict_sections : RightSize s → meets_all s 0 (rules0 (length s)) ≡ true → verdict_by o s ≡ sections o (length s) s (end_of s) [] 16
  unfolding verdict_by
  verdict_sections r h = rw (size_right s r, h)

  pub verdict_head : RightSize s → meets_all s 0 (rules0 (length s)) ≡ false → verdict_by o s ≡ refused (refuse Section0 0)
  unfolding verdict_by
  verdict_head r h = rw (size_right s r, h)

  pub verdict_size : sized s ≡ false → verdict_by o s ≡ refused (refuse FileSize 0)
  unfolding verdict_by
  verdict_size h = rw h

not_right : (s : List ℕ) → (RightSize s → ⊥) → sized s ≡ false
not_right s n = go (sized s) refl
  where
    go : (t : Bool) → sized s ≡ t → sized s ≡ false
    go true p = absurd (n (right_size s p))
    go false p = p

-- ── refused exactly so ──

refused_by : (o : FormatChecks) (s : List ℕ) (r : Refusal) (t u : Bool) → sized s ≡ t → meets_all s 0 (rules0 (length s)) ≡ u → verdict_by o s ≡ refused r → RefusedBy o s r
refused_by o s r false u p q h =
    let e : (refuse FileSize 0) ≡ r = refused_same (refuse FileSize 0) r (sym (verdict_size o s p) ∙ h) in
    rw (sym e) (size (λ z. false≢true (sym p ∙ size_right s z)))
refused_by o s r true false p q h =
    let z = right_size s p in
    let e : (refuse Section0 0) ≡ r = refused_same (refuse Section0 0) r (sym (verdict_head o s z q) ∙ h) in
    rw (sym e) (head z q)
refused_by o s r true true p q h =
    let z = right_size s p in
    let small = z.small in
    let st = stopped o (length s) s (end_of s) [] 16 r (omega arith) (omega arith) (omega arith) (sym (verdict_sections o s z q) ∙ h) in
    section z q (st.passed first) st.fails

pub refused_only : (o : FormatChecks) (s : List ℕ) (r : Refusal) → verdict_by o s ≡ refused r → RefusedBy o s r
refused_only o s r h = refused_by o s r (sized s) (meets_all s 0 (rules0 (length s))) refl refl h

pub refused_all : (o : FormatChecks) (s : List ℕ) (r : Refusal) → RefusedBy o s r → verdict_by o s ≡ refused r
refused_all o s r (size n) = verdict_size o s (not_right s n)
refused_all o s r (head z h) = verdict_head o s z h
refused_all o s r (section {seen = seen} {at = at} z h p fails) =
    let small = z.small in
    verdict_sections o s z h ∙ refuses o s (end_of s) seen at r (omega arith) (omega arith) p fails

-- the same by number and place
pub refused_at : (o : FormatChecks) (s : List ℕ) (r : Refusal) → verdict_by o s ≡ refused r → RefusedAt o s (number_of r.why) r.place
unfolding refuse
refused_at o s r h = record { why = r.why; refused = refused_only o s r h; number = refl }

-- one refusal
pub refused_one : (o : FormatChecks) (s : List ℕ) (q r : Refusal) → RefusedBy o s q → RefusedBy o s r → q ≡ r
refused_one o s q r a b = refused_same q r (sym (refused_all o s q a) ∙ refused_all o s r b)

-- what a format says of its sections, and its checks, which ask just that
module _ (o : FormatChecks) (format : Format) (says : Says o format) where
  -- ── accepted exactly so ──

  accepted_by : (s : List ℕ) (cs : List Cut) (t u : Bool) → sized s ≡ t → meets_all s 0 (rules0 (length s)) ≡ u → verdict_by o s ≡ accepted cs → AcceptedBy format s cs
  accepted_by s cs false u p q h = absurd (refused_not_accepted (refuse FileSize 0) cs (sym (verdict_size o s p) ∙ h))
  accepted_by s cs true false p q h = absurd (refused_not_accepted (refuse Section0 0) cs (sym (verdict_head o s (right_size s p) q) ∙ h))
  accepted_by s cs true true p q h =
      let z = right_size s p in
      let t = through o (length s) s (end_of s) [] 16 cs (sym (verdict_sections o s z q) ∙ h) in
      record {
        small = z.small;
        large = z.large;
        zero = q;
        past = subst (AfterZero format s (end_of s)) (sym t.cuts) (past_off o format says s (end_of s) (omega arith) t.all (count_cuts t.all) t.rest);
      }

  pub accepted_only : (s : List ℕ) (cs : List Cut) → verdict_by o s ≡ accepted cs → AcceptedBy format s cs
  accepted_only s cs h = accepted_by s cs (sized s) (meets_all s 0 (rules0 (length s))) refl refl h

  pub accepted_all : (s : List ℕ) (cs : List Cut) → AcceptedBy format s cs → verdict_by o s ≡ accepted cs
  unfolding cuts_of
  accepted_all s cs a =
      let small = a.small in
      let k = past_on o format says s (end_of s) (omega arith) cs a.past in
      verdict_sections o s (record { small = a.small; large = a.large }) a.zero
      ∙ sections-accept o s (end_of s) [] 16 k.all (length s) k.rest (omega arith) (omega arith) (omega arith)
      ∙ ap accepted k.all_are

  -- ── either, and only one ──

  -- a file has one list of cuts, or one refusal
  pub accepted_one : (s : List ℕ) (cs ds : List Cut) → AcceptedBy format s cs → AcceptedBy format s ds → cs ≡ ds
  accepted_one s cs ds a b = accepted_same cs ds (sym (accepted_all s cs a) ∙ accepted_all s ds b)

  -- and never both
  pub not_both : (s : List ℕ) (cs : List Cut) (r : Refusal) → AcceptedBy format s cs → RefusedBy o s r → ⊥
  not_both s cs r a b = refused_not_accepted r cs (sym (refused_all o s r b) ∙ accepted_all s cs a)

  pub exact : Exact o format
  exact =
      record {
        refused_only = refused_only o;
        refused_all = refused_all o;
        refused_at = refused_at o;
        accepted_only = accepted_only;
        accepted_all = accepted_all;
        accepted_one = accepted_one;
        refused_one = refused_one o;
        not_both = not_both;
      }
