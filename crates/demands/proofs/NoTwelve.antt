-- NO 12. A refusal of a file has no such number. And nothing is lost by that: where a section 7 is judged, run read and run check, asked about the same data, V and bins,
-- never answer 12 (V over 253), and run check refuses by 8 exactly where the section's own checks do, at the same octet. The idea: the sections 3 and 5 last seen have passed, and hold the bins
-- and V (base_format `Held.antt`).
use Prim.Native.Nat.{ℕ, ◌+◌, ◌≤◌}
use mathlib.Core.Path.{◌≡◌, refl, sym, ap, subst, ◌∙◌}
use mathlib.Core.Logic.{◌↔◌}
use mathlib.Core.List.{List}
use mathlib.Core.Bool.{Bool, true, false}
use native.Mathlib.Omega.{arith}
use borrow.Author.Tests.{le-leb}
use lib.ListN.{length}
use Rattle.rules.specs.Fields.{length_at, number_at, points_at}
use Rattle.runs.specs.Run.{gives, fault_at}
use Rattle.runs.specs.Runs.{AtFault}
use Rattle.runs.proofs.Fault.{gives_fault, fault_gives, fault_only}
use Rattle.bare.specs.Read.{ReadPromise, CheckPromise}
use Rattle.bare.specs.Reasons.{ReadReason, CheckReason}
use Rattle.bare.specs.declared.ReadRefusal.TheVariants as F
use Rattle.bare.specs.declared.CheckRefusal.TheVariants as C
use Rattle.bare.proofs.Reasons.{read_reason, check_reason, reason_check}
use Rattle.sections.specs.Refusal.{number_of, refuse}
use Rattle.sections.specs.Checks.{Check, FormatChecks, framed}
use Rattle.sections.specs.History.{Seen, previous, last_seen, context_of}
use Rattle.sections.specs.Refused.{FirstFails, this, later, Passed}
use Rattle.sections.specs.Verdict.{end_of, first_fault}
use Rattle.sections.specs.declared.Refusal.{Refusal}
use Rattle.sections.specs.declared.Why.TheVariants.{Data}
use Rattle.sections.proofs.Framed.{framed_is}
use Rattle.sections.proofs.Numbers.{numbered}
use Rattle.sections.proofs.Order.{before_seven}
use Rattle.sections.proofs.Faults.{first_wrong}
use Rattle.base_format.specs.Fields.{greatest_at}
use Rattle.base_format.specs.Parts.{data_at}
use Rattle.base_format.specs.Checks.{checks7}
use Rattle.base_format.proofs.Held.{LikeBase, held_few, held_low}
use Rattle.bare.specs.declared.CheckRefusal.{CheckRefusal}
use Rattle.std.specs.Prelude.{Err, Ok, Result, ⊤}

pub not_twelve : (r : Refusal) → number_of r.why ≡ 12 → ⊥
not_twelve r = (numbered r.why).not_twelve

-- a section 7 that is judged: every section before it passes, and it may stand where it does
pub record AtSeven (own : FormatChecks) (s : List ℕ) (seen : List Seen) (at : ℕ) : Type 0 where
  pub passed : Passed own s (end_of s) seen at
  pub frame : framed s (end_of s) (context_of seen at) at ≡ true
  pub number : number_at s at ≡ 7

-- of a file, and of one whose data may be anything
module _ (own : FormatChecks) (like : LikeBase own) (s : List ℕ) (seen : List Seen) (at : ℕ) (h : AtSeven own s seen at) where
  -- its V and its bins
  abbrev pub v : ℕ
  v = greatest_at s (last_seen 5 seen)

  abbrev pub bins : ℕ
  bins = points_at s (last_seen 3 seen)

  six : previous seen ≡ 6
  unfolding context_of
  six = before_seven _ _ (framed_is s (end_of s) (context_of seen at) at h.frame).allowed h.number

  low : v ≤ 252
  low = let six = six in held_low own like s h.passed (omega arith)

  few : bins ≤ 2097152
  few = let six = six in held_few own like s h.passed (omega arith)

  pub read_not_twelve : (d out : List ℕ) → ReadPromise v bins (data_at s at) d (Err F.V) out → ⊥
  read_not_twelve d out p = go (read_reason v bins (data_at s at) d out F.V p)
    where
      go : ReadReason v bins (length d) (data_at s at) F.V → ⊥
      go (ReadReason.by_v over) = let v_low = low in omega arith

  pub check_not_twelve : CheckPromise v bins (data_at s at) (Err C.V) → ⊥
  check_not_twelve p = go (check_reason v bins (data_at s at) C.V p)
    where
      go : CheckReason v bins (data_at s at) C.V → ⊥
      go (CheckReason.by_v over) = let v_low = low in omega arith

  -- 8, where the section is long enough to have data: run check's, with the offset counted in the file
  module _ (long : 6 ≤ length_at s at) where
    abbrev sevens : List Check
    sevens = checks7 s (context_of seen at) at

    -- what the checks of a section 7 find, by what its data gives
    given : gives v bins (data_at s at) ≡ true → first_fault sevens ≡ (Ok tt)
    unfolding context_of
    given e = rw (le-leb 6 (length_at s at) long, e)

    fails : gives v bins (data_at s at) ≡ false → FirstFails (refuse Data (at + 5 + fault_at v bins (data_at s at))) sevens
    unfolding context_of
    fails e = later (le-leb 6 (length_at s at) long) (this e)

    -- the first that fails is one
    same_place : (q r : Refusal) → FirstFails q sevens → FirstFails r sevens → q.place ≡ r.place
    same_place q r f g = let e = sym (first_wrong sevens q f) ∙ first_wrong sevens r g in ap (λ (x : Refusal). x.place) (let same : q ≡ r = cc e in same)

    module _ (i : ℕ) (a : Result ⊤ CheckRefusal) (p : CheckPromise v bins (data_at s at) a) where
      to_file : a ≡ Err (C.Data i) → FirstFails (refuse Data (at + 5 + i)) sevens
      to_file e = go (check_reason v bins (data_at s at) (C.Data i) (rw (sym e) p))
        where
          go : CheckReason v bins (data_at s at) (C.Data i) → FirstFails (refuse Data (at + 5 + i)) sevens
          go (CheckReason.by_data x y f) = rw (fault_only v bins i (data_at s at) f) (fails ((fault_gives v bins (data_at s at)).0 (i, f)))

      of_file : (g : Bool) → gives v bins (data_at s at) ≡ g → FirstFails (refuse Data (at + 5 + i)) sevens → a ≡ Err (C.Data i)
      unfolding refuse
      of_file true e f = let z : (Ok tt) ≡ Err (refuse Data (at + 5 + i)) = sym (given e) ∙ first_wrong sevens _ f in
          let wrong : ◌≡◌ {A = ℕ} 0 1 = cc z in absurd (omega arith)
      of_file false e f =
          let one = same_place _ _ f (fails e) in
          let is : fault_at v bins (data_at s at) ≡ i = omega arith in
          reason_check v bins (data_at s at) (C.Data i) a (CheckReason.by_data (let l = low in omega arith) few (subst (AtFault v bins (data_at s at)) is (gives_fault v bins (data_at s at) e))) p

      pub same_eight : (a ≡ Err (C.Data i)) ↔ FirstFails (refuse Data (at + 5 + i)) sevens
      same_eight = (to_file, of_file (gives v bins (data_at s at)) refl)
