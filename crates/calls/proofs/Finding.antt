-- What a call comes to by the cut that was sought: its answer is that of the cut, or the refusal.
use Prim.Native.Nat.{ℕ, ◌<◌}
use mathlib.Core.Path.{◌≡◌, refl, sym, ap, subst}
use mathlib.Core.List.{List}
use mathlib.Core.Bool.{Bool, true, false, cond}
use native.Mathlib.Omega.{arith}
use borrow.Author.Tests.{ltb-true}
use lib.Dec.{ltb}
use lib.ListN.{length, get_or}
use Rattle.sections.specs.Refusal.{refuse}
use Rattle.sections.specs.Checks.{FormatChecks}
use Rattle.sections.specs.Verdict.{Verdict, accepted, refused, default_cut, verdict_by}
use Rattle.sections.specs.Accepted.{Format, AcceptedBy}
use Rattle.sections.specs.Exact.{Exact}
use Rattle.sections.specs.declared.Cut.{Cut}
use Rattle.sections.specs.declared.Refusal.{Refusal}
use Rattle.sections.specs.declared.Why.TheVariants.{Argument}
use Rattle.walks.specs.Answer.{answer_for}
use Rattle.walks.specs.declared.Found.{Found}
use Rattle.base_format.specs.Checks.{base_checks, any_data_checks}
use Rattle.base_format.specs.Accepted.{base_format, any_data_format}
use Rattle.base_format.specs.Verdict.{verdict, any_data_verdict}
use Rattle.base_format.specs.Good.{GoodCut, AnyDataCut}
use Rattle.base_format.proofs.Exact.{exact, any_exact}
use Rattle.base_format.proofs.GoodCuts.{good_accepted, any_cut_of}
use Rattle.dual_format.specs.Checks.{dual_checks}
use Rattle.dual_format.specs.Accepted.{dual_format}
use Rattle.dual_format.specs.Verdict.{verdict as dual_verdict}
use Rattle.dual_format.specs.Good.{GoodCut as DualGoodCut}
use Rattle.dual_format.proofs.Exact.{exact as dual-exact}
use Rattle.dual_format.proofs.GoodCuts.{good_accepted as dual-good-accepted}
use Rattle.calls.specs.Cuts.{on_file, on_cut, cut_at, sought_in, sought_by}
use Rattle.std.specs.Prelude.{Err, Ok, Result}

-- ── what was sought, by what the walk answered ──

pub sought_walked : (i : ℕ) (v : Verdict) (f : Found) → answer_for i v ≡ Ok f → sought_by i f ≡ sought_in i v
unfolding on_cut answer_for
sought_walked i (accepted cs) f h =
    let e : record { cuts = length cs; cut = get_or cs i default_cut } ≡ f = cc in
    ap (sought_by i) (sym e)
sought_walked i (refused r) f h = let z : ◌≡◌ {A = ℕ} 0 1 = cc in absurd (omega arith)

pub sought_refused : (i : ℕ) (v : Verdict) (r : Refusal) → answer_for i v ≡ Err r → Err r ≡ sought_in i v
unfolding on_cut answer_for
sought_refused i (accepted cs) r h = let z : ◌≡◌ {A = ℕ} 0 1 = cc in absurd (omega arith)
sought_refused i (refused q) r h = let e : q ≡ r = cc in ap Err (sym e)

-- ── and what a call makes of it ──

module _ (i : ℕ) (v : Verdict) where
  -- the cut that was found is cut i
  pub cut_sought : (c : Cut) (P : Cut → Type 0) → sought_in i v ≡ Ok c → ((cs : List Cut) → v ≡ accepted cs → i < length cs → P (get_or cs i default_cut)) → P c
  unfolding on_cut
  cut_sought c P h k = go v refl h
    where
      split : (cs : List Cut) → v ≡ accepted cs → (t : Bool) → ltb i (length cs) ≡ t → ◌≡◌ {A = Result Cut Refusal} (cond t (Ok (get_or cs i default_cut)) (Err (refuse Argument 0))) (Ok c) → P c
      split cs e true p y =
          let same : get_or cs i default_cut ≡ c = cc y in
          subst P same (k cs e (ltb-true _ _ p))
      split cs e false p y = let z : ◌≡◌ {A = ℕ} 0 1 = cc y in absurd (omega arith)

      go : (w : Verdict) → v ≡ w → sought_in i w ≡ Ok c → P c
      go (accepted cs) e x = split cs e (ltb i (length cs)) refl x
      go (refused r) e x = let z : ◌≡◌ {A = ℕ} 0 1 = cc x in absurd (omega arith)

  pub cut_found : (c : Cut) → sought_in i v ≡ Ok c → cut_at i v ≡ c
  unfolding cut_at
  cut_found c h = cut_sought c (λ x. cut_at i v ≡ x) h (λ cs e lt. ap (cut_at i) e)

  module _ {A : Type 0} (bad : Refusal → A) (some : Cut → A) where
    -- the call's answer is what it makes of what was sought
    made_of : (w : Verdict) → (r : Refusal) → sought_in i w ≡ Err r → on_cut bad some i w ≡ bad r
    unfolding on_cut
    made_of (refused q) r h = let same : q ≡ r = cc h in ap bad same
    made_of (accepted cs) r h = split (ltb i (length cs)) h
      where
        split : (t : Bool) → ◌≡◌ {A = Result Cut Refusal} (cond t (Ok (get_or cs i default_cut)) (Err (refuse Argument 0))) (Err r) → cond t (some (get_or cs i default_cut)) (bad (refuse Argument 0)) ≡ bad r
        split true y = let z : ◌≡◌ {A = ℕ} 0 1 = cc y in absurd (omega arith)
        split false y = let same : refuse Argument 0 ≡ r = cc y in ap bad same

    pub on_refused : (r : Refusal) → sought_in i v ≡ Err r → on_cut bad some i v ≡ bad r
    on_refused = made_of v

    cut_made : (c : Cut) (w : Verdict) → sought_in i w ≡ Ok c → on_cut bad some i w ≡ some c
    unfolding on_cut
    cut_made c (refused q) h = let z : ◌≡◌ {A = ℕ} 0 1 = cc h in absurd (omega arith)
    cut_made c (accepted cs) h = split (ltb i (length cs)) h
      where
        split : (t : Bool) → ◌≡◌ {A = Result Cut Refusal} (cond t (Ok (get_or cs i default_cut)) (Err (refuse Argument 0))) (Ok c) → cond t (some (get_or cs i default_cut)) (bad (refuse Argument 0)) ≡ some c
        split true y = let same : get_or cs i default_cut ≡ c = cc y in ap some same
        split false y = let z : ◌≡◌ {A = ℕ} 0 1 = cc y in absurd (omega arith)

    pub on_found : (c : Cut) → sought_in i v ≡ Ok c → on_cut bad some i v ≡ some c
    on_found c = cut_made c v

-- ── it is good, as the cuts of an accepted file are ──

sought_good : (own : FormatChecks) (format : Format) (exact : Exact own format) (s : List ℕ) (P : Cut → Type 0)
    → ((cs : List Cut) → AcceptedBy format s cs → (i : ℕ) → i < length cs → P (get_or cs i default_cut)) → (i : ℕ) (c : Cut) → sought_in i (verdict_by own s) ≡ Ok c → P c
sought_good own format exact s P each i c h = cut_sought i (verdict_by own s) c P h (λ cs e lt. each cs (exact.accepted_only s cs e) i lt)

pub good_cut : (s : List ℕ) (i : ℕ) (c : Cut) → sought_in i (verdict s) ≡ Ok c → GoodCut s c
good_cut s = sought_good base_checks base_format exact s (GoodCut s) (good_accepted s)

pub any_cut : (s : List ℕ) (i : ℕ) (c : Cut) → sought_in i (any_data_verdict s) ≡ Ok c → AnyDataCut s c
any_cut s = sought_good any_data_checks any_data_format any_exact s (AnyDataCut s) (any_cut_of s)

pub dual_good_cut : (s : List ℕ) (i : ℕ) (c : Cut) → sought_in i (dual_verdict s) ≡ Ok c → DualGoodCut s c
dual_good_cut s = sought_good dual_checks dual_format dual-exact s (DualGoodCut s) (dual-good-accepted s)

-- ── a call on the whole file, by what the walk answers ──

module _ {A : Type 0} (bad : Refusal → A) (some : ℕ → Cut → A) where
  pub file_some : (v : Verdict) (f : Found) → answer_for 0 v ≡ Ok f → on_file bad some v ≡ some f.cuts f.cut
  unfolding on_file answer_for
  file_some (accepted cs) f h =
      let e : record { cuts = length cs; cut = get_or cs 0 default_cut } ≡ f = cc in
      ap (λ (x : Found). some x.cuts x.cut) e
  file_some (refused r) f h = let z : ◌≡◌ {A = ℕ} 0 1 = cc in absurd (omega arith)

  pub file_bad : (v : Verdict) (r : Refusal) → answer_for 0 v ≡ Err r → on_file bad some v ≡ bad r
  unfolding on_file answer_for
  file_bad (accepted cs) r h = let z : ◌≡◌ {A = ℕ} 0 1 = cc in absurd (omega arith)
  file_bad (refused q) r h = let e : q ≡ r = cc in ap bad e
