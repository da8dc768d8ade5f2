-- A cut of each of two accepted dual-polarisation files, with the same octets: cut and bin value answer the same of both; and open, of files that begin
-- alike.
use Prim.Native.Nat.{ℕ, ◌<◌}
use mathlib.Core.Path.{◌≡◌, refl, sym, ◌∙◌, ap}
use mathlib.Core.List.{List}
use mathlib.Core.Bool.{Bool, true, false, cond, ◌&&◌}
use native.Mathlib.Omega.{arith}
use borrow.Author.Tests.{ltb-true}
use lib.Dec.{ltb}
use lib.ListN.{length, get_or}
use Rattle.rules.specs.Fields.{bins_at, rays_at, parameter_at}
use Rattle.rules.proofs.Chains.{and_true_both}
use Rattle.sections.specs.Accepted.{section_at}
use Rattle.sections.specs.Verdict.{default_cut}
use Rattle.sections.specs.Parts.{bins_in, rays_in, grid_at}
use Rattle.sections.specs.declared.Cut.{Cut}
use Rattle.sections.specs.declared.Refusal.{Refusal}
use Rattle.dual_format.specs.Fields.{site_at}
use Rattle.dual_format.specs.Checks.{dual_checks}
use Rattle.dual_format.specs.Verdict.{verdict}
use Rattle.dual_format.specs.Accepted.{dual_format, Accepted}
use Rattle.dual_format.proofs.Exact.{exact}
use Rattle.dual_format.proofs.First.{as_first}
use Rattle.calls.specs.Cuts.{on_cut}
use Rattle.sections.specs.Refusal.{refuse}
use Rattle.sections.specs.declared.Why.TheVariants.{Argument}
use Rattle.calls.proofs.ByVerdict.{cut_accepted, file_accepted}
use Rattle.dualpol.specs.Answers.{summary_of, open_answer, cut_answer, bin_on, bin_answer}
use Rattle.files.specs.File.{Parts, parts_at}
use Rattle.files.proofs.Each.{four_alike, time_alike}
use Rattle.moved.specs.DualByOctets.{told_by}
use Rattle.moved.proofs.DualByOctets.{DualByOctets, dual_by_octets}
use Rattle.std.specs.Prelude.{Err, Ok, Option, Result, Float}

-- cut i of one file and cut j of another: every call on a cut answers the same
pub record SameDualCalls (s : List ℕ) (i : ℕ) (t : List ℕ) (j : ℕ) : Type 0 where
  pub cut : cut_answer s i ≡ cut_answer t j
  pub bin : (ray bin : ℕ) → bin_answer s i ray bin ≡ bin_answer t j ray bin

guarded : {X : Type 0} (g : Bool) (x y z : X) → (g ≡ true → x ≡ y) → cond g x z ≡ cond g y z
guarded true x y z f = f refl
guarded false x y z f = refl

-- bin value of a cut, by its octets
bin_by : Parts → ℕ → ℕ → Result (Option Float) Refusal
bin_by p ray bin = cond (ltb ray (rays_at p.three 0) && ltb bin (bins_at p.three 0)) (Ok (told_by p ray bin)) (Err (refuse Argument 0))

bin_by_lem : (s : List ℕ) (c : Cut) (p : Parts) → DualByOctets s c p → (ray bin : ℕ) → bin_on s ray bin c ≡ bin_by p ray bin
unfolding bin_on bin_by
bin_by_lem s c p m ray bin =
    guarded (ltb ray (rays_in s c) && ltb bin (bins_in s c)) _ _ _
    (λ e.
    let in_range = and_true_both (ltb ray (rays_in s c)) (ltb bin (bins_in s c)) e in
    ap Ok (m.tells ray bin (ltb-true _ _ in_range.0) (ltb-true _ _ in_range.1)))
    ∙ (λ i. cond (ltb ray (m.rays i) && ltb bin (m.bins i)) (Ok (told_by p ray bin)) (Err (refuse Argument 0)))

module _ (s : List ℕ) (cs : List Cut) (a : Accepted s cs) where
  on_its_cut : (i : ℕ) → i < length cs → {X : Type 0} (bad : Refusal → X) (some : Cut → X) → on_cut bad some i (verdict s) ≡ some (get_or cs i default_cut)
  on_its_cut i lt bad some = cut_accepted dual_checks dual_format exact s bad some i cs a lt

pub same_dual_calls : (s t : List ℕ) (cs ds : List Cut) → Accepted s cs → Accepted t ds → (i j : ℕ) → i < length cs → j < length ds
    → parts_at s (get_or cs i default_cut) ≡ parts_at t (get_or ds j default_cut) → SameDualCalls s i t j
unfolding cut_answer bin_answer
same_dual_calls s t cs ds a b i j lt lu e =
    let m = dual_by_octets s cs a i lt in
    let n = dual_by_octets t ds b j lu in
    let grid = m.grid ∙ ap (λ (p : Parts). grid_at p.three 0) e ∙ sym n.grid in
    record {
      cut = on_its_cut s cs a i lt _ _ ∙ ap Ok grid ∙ sym (on_its_cut t ds b j lu _ _);
      bin =
          λ ray bin.
          on_its_cut s cs a i lt _ _
          ∙ bin_by_lem s _ _ m ray bin ∙ ap (λ (p : Parts). bin_by p ray bin) e ∙ sym (bin_by_lem t _ _ n ray bin)
          ∙ sym (on_its_cut t ds b j lu _ _);
    }

-- an accepted file with the section 1 of another, whose first cut stood in that other one, opens as that other one does, but for the number of cuts
pub same_dual_open : (s t : List ℕ) (cs ds : List Cut) → Accepted s cs → Accepted t ds → (j : ℕ) → 0 < length ds → j < length cs
    → parts_at t (get_or ds 0 default_cut) ≡ parts_at s (get_or cs j default_cut) → section_at t 16 ≡ section_at s 16
    → open_answer t ≡ Ok (summary_of s (length ds) (get_or cs 0 default_cut))
unfolding open_answer
same_dual_open s t cs ds a b j some lt e one =
    let m = dual_by_octets t ds b 0 some in
    let zero = dual_by_octets s cs a 0 (omega arith) in
    let parameter =
    m.parameter ∙ ap (λ (p : Parts). parameter_at p.four 0) e
    ∙ four_alike dual_format (λ o. parameter_at o 0) (λ x y z k. (as_first x y z k).0) s cs a j 0 lt (omega arith) ∙ sym zero.parameter in
    let site =
    m.site ∙ ap (λ (p : Parts). site_at p.four 0) e
    ∙ four_alike dual_format (λ o. site_at o 0) (λ x y z k. (as_first x y z k).1) s cs a j 0 lt (omega arith) ∙ sym zero.site in
    let time = time_alike dual_format t s ds b one in
    file_accepted dual_checks dual_format exact t _ _ ds b
    ∙ (λ i. Ok (record { parameter = parameter i; time = time i; site = site i; cuts = length ds }))

-- two files with the same section 1, the same first cut and as many cuts open alike
pub dual_opened_alike : (s t : List ℕ) (cs ds : List Cut) → Accepted s cs → Accepted t ds → 0 < length cs → length ds ≡ length cs
    → parts_at t (get_or ds 0 default_cut) ≡ parts_at s (get_or cs 0 default_cut) → section_at t 16 ≡ section_at s 16 → open_answer t ≡ open_answer s
dual_opened_alike s t cs ds a b some count e one =
    same_dual_open s t cs ds a b 0 (omega arith) some e one
    ∙ ap (λ (n : ℕ). Ok (summary_of s n (get_or cs 0 default_cut))) count
    ∙ sym (same_dual_open s s cs cs a a 0 some some refl refl)
