-- What a call asks of the cut, and why it refuses: it refuses by a number exactly where that test is the first that fails. The idea: the three tests are taken apart once, for any call.
use Prim.Native.Nat.{ℕ, ◌≤◌, ◌<◌, min}
use mathlib.Core.Path.{◌≡◌, refl, sym, ap, subst}
use mathlib.Core.Logic.{◌⊎◌, inl, inr, ⊎_elim, ◌↔◌}
use mathlib.Core.Bool.{Bool, true, false, cond, ◌&&◌, and-false, false≢true}
use mathlib.Core.List.{List}
use native.Mathlib.Omega.{arith}
use borrow.Author.Tests.{le-ltb, ltb-false, lt-leb, leb-false}
use lib.Dec.{ltb, leb}
use lib.ListN.{get_or}
use lib.Ieee.{Float}
use Rattle.sections.specs.Refusal.{refuse}
use Rattle.sections.specs.Checks.{FormatChecks}
use Rattle.sections.specs.Verdict.{default_cut, verdict_by}
use Rattle.sections.specs.Accepted.{Format}
use Rattle.sections.specs.Exact.{Exact}
use Rattle.sections.specs.Parts.{bins_in, rays_in}
use Rattle.sections.specs.declared.Cut.{Cut}
use Rattle.sections.specs.declared.Refusal.{Refusal}
use Rattle.sections.specs.declared.Why.TheVariants.{Argument, Room, Record}
use Rattle.calls.specs.Cuts.{on_cut, judged, judged_by, if_written}
use Rattle.calls.specs.Reasons.{CutReason, by_argument, by_room, by_record, Reason}
use Rattle.calls.proofs.ByVerdict.{by_verdict, reason, by_reason}
use Rattle.std.specs.Prelude.{Err, None, Ok, Option, Result, Some, ⊤}

-- ── what `judge` answers, and what a call then comes to ──

pub judged_bad : {A : Type 0} (bad : Refusal → A) (c : Cut) (fits : Bool) (answer : A) (a b : Bool) (r : Refusal) → judged_by a b ≡ Err r → judged bad c a b fits answer ≡ bad r
unfolding judged_by
judged_bad bad c f x true true r h = let z : ◌≡◌ {A = ℕ} 0 1 = cc h in absurd (omega arith)
judged_bad bad c f x true false r h = let same : refuse Room 0 ≡ r = cc h in ap bad same
judged_bad bad c f x false b r h = let same : refuse Argument 0 ≡ r = cc h in ap bad same

pub judged_fine : (a b : Bool) → judged_by a b ≡ (Ok tt) → (a ≡ true) × (b ≡ true)
unfolding judged_by
judged_fine true true h = (refl, refl)
judged_fine true false h = let z : ◌≡◌ {A = ℕ} 0 1 = cc h in absurd (omega arith)
judged_fine false b h = let z : ◌≡◌ {A = ℕ} 0 1 = cc h in absurd (omega arith)

-- of two rooms the smaller counts
pub both_rooms : (n room a b : ℕ) → n ≤ room → room ≡ min a b → (n ≤ a) × (n ≤ b)
both_rooms n room a b h e = (omega arith, omega arith)

-- where the last test was made by what filled the room
pub written_if : {A : Type 0} (fits : Bool) (q : Refusal) (a : Result ⊤ Refusal) (x y z : A) → a ≡ cond fits (Ok tt) (Err q) → z ≡ cond fits x y → z ≡ if_written a x y
written_if true q a x y z e h = rw e h
written_if false q a x y z e h = rw e h

-- ── a test that fails, as a fact ──

pub not_lt : (x y : ℕ) → (ltb x y ≡ false) ↔ (y ≤ x)
not_lt x y = (ltb-false x y, le-ltb x y)

pub not_le : (x y : ℕ) → (leb x y ≡ false) ↔ (y < x)
not_le x y = (leb-false x y, lt-leb x y)

pub not_both : (a b : Bool) {P Q : Type 0} → (a ≡ false) ↔ P → (b ≡ false) ↔ Q → ((a && b) ≡ false) ↔ (P ⊎ Q)
not_both a b p q = (go a b p q, ⊎_elim (λ x. rw (p.1 x)) (λ x. rw (q.1 x, and-false)))
  where
    go : (a b : Bool) {P Q : Type 0} → (a ≡ false) ↔ P → (b ≡ false) ↔ Q → (a && b) ≡ false → P ⊎ Q
    go false b p q h = inl (p.0 refl)
    go true b p q h = inr (q.0 h)

-- what is not asked
pub never : (true ≡ false) ↔ ⊥
never = ((λ e. false≢true (sym e)), (λ x. absurd x))

-- ── and why a call refuses ──

-- the tests of a call on a cut, what its reasons say, and when it is answered
pub record Judges {A : Type 0} (Refused : Refusal → A) (Answered : A → Type 0) (right roomy fits : Bool) (answer : A) (Wrong Short Unfit : Type 0) : Type 0 where
  pub wrong : (right ≡ false) ↔ Wrong
  pub short : (roomy ≡ false) ↔ Short
  pub unfit : (fits ≡ false) ↔ Unfit
  pub answered : Answered answer
  pub not_refused : (q : Refusal) → Answered (Refused q) → ⊥
  pub same : (p q : Refusal) → Refused p ≡ Refused q → p ≡ q

holds : {P : Type 0} (a : Bool) → (a ≡ false) ↔ P → (P → ⊥) → a ≡ true
holds true p n = refl
holds false p n = absurd (n (p.0 refl))

module _ {A : Type 0} {Refused : Refusal → A} {Answered : A → Type 0} {Wrong Short Unfit : Type 0} (c : Cut) where
  judged_reason : (a b f : Bool) (answer : A) → Judges Refused Answered a b f answer Wrong Short Unfit → (q : Refusal) → judged Refused c a b f answer ≡ Refused q
      → CutReason c Wrong Short Unfit q
  judged_reason false b f answer k q e = rw (sym (k.same (refuse Argument 0) q e)) (by_argument (k.wrong.0 refl))
  judged_reason true false f answer k q e = rw (sym (k.same (refuse Room 0) q e)) (by_room (λ w. false≢true (sym (k.wrong.1 w))) (k.short.0 refl))
  judged_reason true true false answer k q e =
      rw (sym (k.same (refuse Record c.section7) q e)) (by_record (λ w. false≢true (sym (k.wrong.1 w))) (λ w. false≢true (sym (k.short.1 w))) (k.unfit.0 refl))
  judged_reason true true true answer k q e = absurd (k.not_refused q (subst Answered e k.answered))

  reason_judged : (a b f : Bool) (answer : A) → Judges Refused Answered a b f answer Wrong Short Unfit → (q : Refusal) → CutReason c Wrong Short Unfit q
      → judged Refused c a b f answer ≡ Refused q
  reason_judged a b f answer k q (by_argument w) = rw (k.wrong.1 w)
  reason_judged a b f answer k q (by_room n w) = rw (holds a k.wrong n, k.short.1 w)
  reason_judged a b f answer k q (by_record n m w) = rw (holds a k.wrong n, holds b k.short m, k.unfit.1 w)

  judged_one : (a b f : Bool) (answer : A) → Judges Refused Answered a b f answer Wrong Short Unfit
      → Answered (judged Refused c a b f answer) ⊎ ((q : Refusal) × (judged Refused c a b f answer ≡ Refused q))
  judged_one true true true answer k = inl k.answered
  judged_one true true false answer k = inr (refuse Record c.section7, refl)
  judged_one true false f answer k = inr (refuse Room 0, refl)
  judged_one false b f answer k = inr (refuse Argument 0, refl)

module _ (own : FormatChecks) (format : Format) (exact : Exact own format) (s : List ℕ) (i : ℕ) {A : Type 0} {Refused : Refusal → A} {Answered : A → Type 0}
    {right roomy fits : Cut → Bool} {answer : Cut → A} {Wrong Short Unfit : Cut → Type 0}
    (k : (c : Cut) → Judges Refused Answered (right c) (roomy c) (fits c) (answer c) (Wrong c) (Short c) (Unfit c)) where
  abbrev call : A
  call = on_cut Refused (λ c. judged Refused c (right c) (roomy c) (fits c) (answer c)) i (verdict_by own s)

  -- it refuses by exactly its reasons
  pub refuses : (q : Refusal) → (call ≡ Refused q) ↔ Reason own format s i (λ c. CutReason c (Wrong c) (Short c) (Unfit c)) q
  refuses q = (
    reason own format exact s Refused _ i _ q (λ p. (k default_cut).same p q) (λ c. judged_reason c _ _ _ _ (k c) q),
    by_reason own format exact s Refused _ i _ q (λ c. reason_judged c _ _ _ _ (k c)),
  )

  one_of : Answered call ⊎ ((q : Refusal) × (call ≡ Refused q))
  one_of =
      by_verdict own format exact s Refused _ i call (Answered call ⊎ ((q : Refusal) × (call ≡ Refused q)))
      (λ r h e. inr (r, sym e))
      (λ cs h le e. inr (refuse Argument 0, sym e))
      (λ cs h lt e. let c = get_or cs i default_cut in subst (λ (x : A). Answered x ⊎ ((q : Refusal) × (x ≡ Refused q))) e (judged_one c (right c) (roomy c) (fits c) (answer c) (k c)))
      refl

  -- and answers exactly where no reason to refuse holds
  pub answers_exactly : Answered call ↔ ((q : Refusal) → Reason own format s i (λ c. CutReason c (Wrong c) (Short c) (Unfit c)) q → ⊥)
  answers_exactly = (
    (λ h q w. (k default_cut).not_refused q (subst Answered ((refuses q).1 w) h)),
    (λ none. ⊎_elim (λ h. h) (λ e. absurd (none e.0 ((refuses e.0).0 e.1))) one_of),
  )

-- ── the calls that more than one crate has ──

-- both ray calls, plain or by a record: 10 for the ray, then 11 for room under Nb
pub ray_judges : (s : List ℕ) (ray room : ℕ) (c : Cut) (fits : Bool) {Unfit : Type 0} → (fits ≡ false) ↔ Unfit
    → Judges {A = Result ⊤ Refusal} Err (λ a. a ≡ Ok tt) (ltb ray (rays_in s c)) (leb (bins_in s c) room) fits (Ok tt) (rays_in s c ≤ ray) (room < bins_in s c) Unfit
ray_judges s ray room c fits u =
    record {
      wrong = not_lt ray (rays_in s c);
      short = not_le (bins_in s c) room;
      unfit = u;
      answered = refl;
      not_refused = λ q e. let z : ◌≡◌ {A = ℕ} 0 1 = cc e in omega arith;
      same = λ p q e. cc e;
    }

-- bin value of either format: 10 for the ray or the bin; it answers missing, or a value
abbrev pub BinAnswered : Result (Option Float) Refusal → Type 0
BinAnswered a = (a ≡ (Ok None)) ⊎ ((x : Float) × (a ≡ Ok (Some x)))

pub bin_judges : (s : List ℕ) (ray bin : ℕ) (c : Cut) (x : Result (Option Float) Refusal) → BinAnswered x
    → Judges Err BinAnswered (ltb ray (rays_in s c) && ltb bin (bins_in s c)) true true x ((rays_in s c ≤ ray) ⊎ (bins_in s c ≤ bin)) ⊥ ⊥
bin_judges s ray bin c x told =
    record {
      wrong = not_both _ _ (not_lt ray (rays_in s c)) (not_lt bin (bins_in s c));
      short = never;
      unfit = never;
      answered = told;
      not_refused = λ q. ⊎_elim (λ e. let z : ◌≡◌ {A = ℕ} 0 1 = cc e in omega arith) (λ e. let z : ◌≡◌ {A = ℕ} 0 1 = cc e.1 in omega arith);
      same = λ p q e. cc e;
    }
