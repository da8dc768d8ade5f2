-- What a call on a file answers where the file is accepted and where it is refused, and back, whatever the format: its verdict is exact. So a call refuses by exactly its
-- reasons, once that is shown of what it says on a cut.
use Prim.Native.Nat.{ℕ, ◌≤◌, ◌<◌}
use mathlib.Core.Path.{◌≡◌, refl, sym, ◌∙◌, ap, subst}
use mathlib.Core.Logic.{◌↔◌}
use mathlib.Core.List.{List}
use mathlib.Core.Bool.{Bool, true, false, cond}
use borrow.Author.Tests.{lt-ltb, le-ltb, ltb-true, ltb-false}
use lib.Dec.{ltb}
use lib.ListN.{length, get_or}
use Rattle.sections.specs.Refusal.{refuse}
use Rattle.sections.specs.Checks.{FormatChecks}
use Rattle.sections.specs.Verdict.{Verdict, accepted, refused, verdict_by, default_cut}
use Rattle.sections.specs.Accepted.{Format, AcceptedBy}
use Rattle.sections.specs.Refused.{RefusedBy}
use Rattle.sections.specs.Exact.{Exact}
use Rattle.sections.specs.declared.Cut.{Cut}
use Rattle.sections.specs.declared.Refusal.{Refusal}
use Rattle.sections.specs.declared.Why.TheVariants.{Argument}
use Rattle.calls.specs.Cuts.{on_file, on_cut}
use Rattle.calls.specs.Reasons.{Reason, by_file, no_cut, on_its_cut}

module _ (own : FormatChecks) (format : Format) (exact : Exact own format) (s : List ℕ) where
  -- ── a call on the whole file ──

  module _ {A : Type 0} (bad : Refusal → A) (some : ℕ → Cut → A) where
    pub file_refused : (r : Refusal) → RefusedBy own s r → on_file bad some (verdict_by own s) ≡ bad r
    unfolding on_file
    file_refused r h = ap (on_file bad some) (exact.refused_all s r h)

    pub file_accepted : (cs : List Cut) → AcceptedBy format s cs → on_file bad some (verdict_by own s) ≡ some (length cs) (get_or cs 0 default_cut)
    unfolding on_file
    file_accepted cs h = ap (on_file bad some) (exact.accepted_all s cs h)

    pub by_file_verdict : (a : A) (P : Type 0)
        → ((r : Refusal) → RefusedBy own s r → bad r ≡ a → P)
        → ((cs : List Cut) → AcceptedBy format s cs → some (length cs) (get_or cs 0 default_cut) ≡ a → P)
        → on_file bad some (verdict_by own s) ≡ a → P
    unfolding on_file
    by_file_verdict a P kr ks h = go (verdict_by own s) refl h
      where
        go : (v : Verdict) → verdict_by own s ≡ v → on_file bad some v ≡ a → P
        go (refused r) e x = kr r (exact.refused_only s r e) x
        go (accepted cs) e x = ks cs (exact.accepted_only s cs e) x

    -- it answers, and does not refuse, exactly where the file is not refused
    pub file_answers : (Answered : A → Type 0) → ((n : ℕ) (c : Cut) → Answered (some n c)) → ((q : Refusal) → Answered (bad q) → ⊥)
        → Answered (on_file bad some (verdict_by own s)) ↔ ((q : Refusal) → RefusedBy own s q → ⊥)
    unfolding on_file
    file_answers Answered ok never = (λ h q w. never q (subst Answered (file_refused q w) h), λ none. go none (verdict_by own s) refl)
      where
        go : ((q : Refusal) → RefusedBy own s q → ⊥) → (v : Verdict) → verdict_by own s ≡ v → Answered (on_file bad some v)
        go none (accepted cs) e = ok (length cs) (get_or cs 0 default_cut)
        go none (refused r) e = absurd (none r (exact.refused_only s r e))

  -- ── a call on cut i ──

  module _ {A : Type 0} (bad : Refusal → A) (some : Cut → A) (i : ℕ) where
    pub cut_refused : (r : Refusal) → RefusedBy own s r → on_cut bad some i (verdict_by own s) ≡ bad r
    unfolding on_cut
    cut_refused r h = ap (on_cut bad some i) (exact.refused_all s r h)

    pub cut_missing : (cs : List Cut) → AcceptedBy format s cs → length cs ≤ i → on_cut bad some i (verdict_by own s) ≡ bad (refuse Argument 0)
    unfolding on_cut
    cut_missing cs h le = ap (on_cut bad some i) (exact.accepted_all s cs h) ∙ rw (le-ltb i (length cs) le)

    pub cut_accepted : (cs : List Cut) → AcceptedBy format s cs → i < length cs → on_cut bad some i (verdict_by own s) ≡ some (get_or cs i default_cut)
    unfolding on_cut
    cut_accepted cs h lt = ap (on_cut bad some i) (exact.accepted_all s cs h) ∙ rw (lt-ltb i (length cs) lt)

    -- for each way that the verdict and the cut's number may go
    pub by_verdict : (a : A) (P : Type 0)
        → ((r : Refusal) → RefusedBy own s r → bad r ≡ a → P)
        → ((cs : List Cut) → AcceptedBy format s cs → length cs ≤ i → bad (refuse Argument 0) ≡ a → P)
        → ((cs : List Cut) → AcceptedBy format s cs → i < length cs → some (get_or cs i default_cut) ≡ a → P)
        → on_cut bad some i (verdict_by own s) ≡ a → P
    unfolding on_cut
    by_verdict a P kr kn ks h = go (verdict_by own s) refl h
      where
        go : (v : Verdict) → verdict_by own s ≡ v → on_cut bad some i v ≡ a → P
        go (refused r) e x = kr r (exact.refused_only s r e) x
        go (accepted cs) e x = split (ltb i (length cs)) refl x
          where
            split : (t : Bool) → ltb i (length cs) ≡ t → cond t (some (get_or cs i default_cut)) (bad (refuse Argument 0)) ≡ a → P
            split true p y = ks cs (exact.accepted_only s cs e) (ltb-true _ _ p) y
            split false p y = kn cs (exact.accepted_only s cs e) (ltb-false _ _ p) y

  -- ── why such a call refuses by q, both ways: `Refused` wraps a refusal, and on a cut the call answers so exactly where `OnCut` says ──

  module _ {A : Type 0} (Refused : Refusal → A) (some : Cut → A) (i : ℕ) (OnCut : Cut → Refusal → Type 0) where
    pub reason : (q : Refusal) → ((p : Refusal) → Refused p ≡ Refused q → p ≡ q) → ((c : Cut) → some c ≡ Refused q → OnCut c q)
        → on_cut Refused some i (verdict_by own s) ≡ Refused q → Reason own format s i OnCut q
    reason q same why =
        by_verdict Refused some i (Refused q) (Reason own format s i OnCut q)
        (λ r k e. rw (sym (same r e)) (by_file k))
        (λ cs k le e. rw (sym (same (refuse Argument 0) e)) (no_cut k le))
        (λ cs k lt e. on_its_cut k lt (why (get_or cs i default_cut) e))

    pub by_reason : (q : Refusal) → ((c : Cut) (r : Refusal) → OnCut c r → some c ≡ Refused r) → Reason own format s i OnCut q → on_cut Refused some i (verdict_by own s) ≡ Refused q
    by_reason q why (by_file h) = cut_refused Refused some i q h
    by_reason q why (no_cut {cs = cs} k le) = cut_missing Refused some i cs k le
    by_reason q why (on_its_cut {cs = cs} k lt w) = cut_accepted Refused some i cs k lt ∙ why (get_or cs i default_cut) q w
