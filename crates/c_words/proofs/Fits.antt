-- What each call returns fits one word: the place of a refusal lies in the file or is its end, and a file that is longer than 8,388,608 octets is refused at place 0.
use Prim.Native.Nat.{ℕ, ◌≤◌, ◌<◌}
use mathlib.Core.Path.{◌≡◌, refl}
use mathlib.Core.List.{List}
use mathlib.Core.Bool.{Bool, true, false, cond, ◌&&◌}
use native.Mathlib.Omega.{arith}
use borrow.Author.Tests.{ltb-true}
use lib.Dec.{ltb, leb}
use lib.IntN.{ℤ}
use lib.ListN.{length, get_or}
use Rattle.values.specs.Reading.{reading_of}
use Rattle.values.specs.declared.Reading.{Reading}
use Rattle.values.specs.declared.Reading.TheVariants as G
use Rattle.index.specs.declared.RayRecord.{RayRecord}
use Rattle.stretches.specs.Stretch.{per_entry}
use Rattle.stretches.specs.Call.{answer_of, right_t, right_point}
use Rattle.sections.specs.Refusal.{refuse}
use Rattle.sections.specs.Parts.{bins_in, rays_in}
use Rattle.sections.specs.Checks.{FormatChecks}
use Rattle.sections.specs.Refused.{RefusedBy, size, head, section}
use Rattle.sections.specs.Verdict.{Verdict, accepted, refused, verdict_by, default_cut}
use Rattle.sections.specs.declared.Cut.{Cut}
use Rattle.sections.specs.declared.Refusal.{Refusal}
use Rattle.sections.specs.declared.Why.TheVariants.{Argument, Room, Record}
use Rattle.sections.proofs.Exact.{refused_only}
use Rattle.sections.proofs.Inside.{OwnInside, refused_inside}
use Rattle.base_format.specs.Parts.{product_in, level_in}
use Rattle.base_format.specs.Checks.{base_checks, any_data_checks}
use Rattle.base_format.proofs.Says.{own_inside, any_own_inside}
use Rattle.base_format.proofs.Exact.{any_exact}
use Rattle.base_format.proofs.GoodCuts.{any_cut_of}
use Rattle.dual_format.specs.Parts.{told_in}
use Rattle.dual_format.specs.Checks.{dual_checks}
use Rattle.dual_format.proofs.Says.{own_inside as dual-own-inside}
use Rattle.cuts.specs.Bins.{stretches_in}
use Rattle.cuts.specs.Records.{usable_in}
use Rattle.calls.proofs.Judging.{never}
use Rattle.calls.specs.Cuts.{judged, on_file, on_cut}
use Rattle.polar.specs.Opening.{summary_of, open_answer, info_of, cut_answer}
use Rattle.polar.specs.Rays.{ray_on, ray_answer, bin_of, bin_on, bin_answer}
use Rattle.polar.specs.Stretching.{stretches_on, stretch_answer}
use Rattle.records.specs.Records.{build_on, build_answer, from_on, from_answer}
use Rattle.dualpol.specs.Answers as D
use Rattle.c_words.specs.Word.{word_of, InWord}
use Rattle.c_words.specs.Files.{open_return, cut_return, ray_return, bin_return, stretch_return}
use Rattle.c_words.specs.Dual.{dual_open_return, dual_cut_return}
use Rattle.c_words.proofs.Word.{in_word}
use Rattle.std.specs.Prelude.{Err, None, Ok, Option, Some, Float}

-- ── a call of any format, by what it returns for its answer ──

module _ (own : FormatChecks) (own-inside' : OwnInside own) (s : List ℕ) where
  low : (r : Refusal) → r.place ≤ length s → RefusedBy own s r → r.place ≤ 8388608
  unfolding refuse
  low r h (size k) = omega arith
  low r h (head k e) = omega arith
  low r h (section k e passed fails) = omega arith

  module _ {A : Type 0} (bad : Refusal → A) (returned : A → ℕ) (is : (r : Refusal) → returned (bad r) ≡ word_of r) where
    bad_fits : (r : Refusal) → verdict_by own s ≡ refused r → InWord (returned (bad r))
    bad_fits r e =
        let h = low r (refused_inside own own-inside' s r e) (refused_only own s r e) in
        rw (is r) (in_word r (omega arith))

    pub file_fits : (some : ℕ → Cut → A) → ((n : ℕ) (c : Cut) → InWord (returned (some n c))) → InWord (returned (on_file bad some (verdict_by own s)))
    unfolding on_file
    file_fits some fits = go (verdict_by own s) refl
      where
        go : (v : Verdict) → verdict_by own s ≡ v → InWord (returned (on_file bad some v))
        go (accepted cs) e = fits (length cs) (get_or cs 0 default_cut)
        go (refused r) e = bad_fits r e

    pub cut_fits : (some : Cut → A) (i : ℕ) → ((cs : List Cut) → verdict_by own s ≡ accepted cs → i < length cs → InWord (returned (some (get_or cs i default_cut))))
        → InWord (returned (on_cut bad some i (verdict_by own s)))
    unfolding on_cut refuse
    cut_fits some i fits = go (verdict_by own s) refl
      where
        split : (cs : List Cut) → verdict_by own s ≡ accepted cs → (b : Bool) → ltb i (length cs) ≡ b → InWord (returned (cond b (some (get_or cs i default_cut)) (bad (refuse Argument 0))))
        split cs e true p = fits cs e (ltb-true _ _ p)
        split cs e false p = rw (is (refuse Argument 0)) (omega arith)

        go : (v : Verdict) → verdict_by own s ≡ v → InWord (returned (on_cut bad some i v))
        go (accepted cs) e = split cs e (ltb i (length cs)) refl
        go (refused r) e = bad_fits r e

    -- 10, 11, 13 or an answer
    on_judged : (c : Cut) (a b f : Bool) (x : A) → returned x ≡ 0 → (f ≡ false → c.section7 ≤ 8388608) → InWord (returned (judged bad c a b f x))
    unfolding refuse
    on_judged c true true true x e low = rw e (omega arith)
    on_judged c true true false x e low = let h = low refl in rw (is (refuse Record c.section7)) (in_word (refuse Record c.section7) (omega arith))
    on_judged c true false f x e low = rw (is (refuse Room 0)) (omega arith)
    on_judged c false b f x e low = rw (is (refuse Argument 0)) (omega arith)

    pub judged_fits : (right roomy fits : Cut → Bool) (answer : Cut → A) (i : ℕ) → ((c : Cut) → returned (answer c) ≡ 0)
        → ((cs : List Cut) → verdict_by own s ≡ accepted cs → i < length cs → fits (get_or cs i default_cut) ≡ false → (get_or cs i default_cut).section7 ≤ 8388608)
        → InWord (returned (on_cut bad (λ c. judged bad c (right c) (roomy c) (fits c) (answer c)) i (verdict_by own s)))
    judged_fits right roomy fits answer i none low =
        cut_fits (λ c. judged bad c (right c) (roomy c) (fits c) (answer c)) i
        (λ cs e lt. let c = get_or cs i default_cut in on_judged c (right c) (roomy c) (fits c) (answer c) (none c) (low cs e lt))

-- ── of a file ──

pub open_fits : (s : List ℕ) → InWord (open_return (open_answer s))
unfolding open_answer
open_fits s = file_fits base_checks own_inside s Err open_return (λ r. refl) (λ n c. Ok (summary_of s n c)) (λ n c. omega arith)

pub cut_info_fits : (s : List ℕ) (i : ℕ) → InWord (cut_return (cut_answer s i))
unfolding cut_answer
cut_info_fits s i = cut_fits base_checks own_inside s Err cut_return (λ r. refl) (λ c. Ok (info_of s c)) i (λ cs e lt. omega arith)

pub ray_fits : (s : List ℕ) (i ray room : ℕ) → InWord (ray_return (ray_answer s i ray room))
unfolding ray_answer ray_on
ray_fits s i ray room =
    judged_fits base_checks own_inside s Err ray_return (λ r. refl) (λ c. ltb ray (rays_in s c)) (λ c. leb (bins_in s c) room) (λ c. true) (λ c. (Ok tt)) i (λ c. refl)
    (λ cs e lt no. absurd (never.0 no))

reading_returned : (x : Reading) → bin_return (Ok (bin_of x)) ≡ 0
unfolding bin_of
reading_returned G.Missing = refl
reading_returned (G.Number z) = refl

pub bin_fits : (s : List ℕ) (i ray bin : ℕ) → InWord (bin_return (bin_answer s i ray bin))
unfolding bin_answer bin_on
bin_fits s i ray bin =
    judged_fits base_checks own_inside s Err bin_return (λ r. refl) (λ c. ltb ray (rays_in s c) && ltb bin (bins_in s c)) (λ c. true) (λ c. true) _ i
    (λ c. reading_returned (reading_of (product_in s c) (level_in s c ray bin))) (λ cs e lt no. absurd (never.0 no))

pub stretches_fits : (s : List ℕ) (i : ℕ) (t : ℤ) (ray bin room : ℕ) → InWord (stretch_return (stretch_answer s i t ray bin room))
unfolding stretch_answer stretches_on
stretches_fits s i t ray bin room =
    judged_fits base_checks own_inside s Err stretch_return (λ r. refl) (λ c. right_t t && right_point (bins_in s c) (rays_in s c) ray bin) (λ c. leb per_entry room) (λ c. true)
    (λ c. Ok (answer_of (rays_in s c) room (stretches_in s c t ray bin))) i (λ c. refl) (λ cs e lt no. absurd (never.0 no))

-- ── by a record ──

pub build_fits : (s : List ℕ) (i room : ℕ) → InWord (ray_return (build_answer s i room))
unfolding build_answer build_on
build_fits s i room =
    judged_fits base_checks own_inside s Err ray_return (λ r. refl) (λ c. true) (λ c. leb (rays_in s c) room) (λ c. true) (λ c. (Ok tt)) i (λ c. refl)
    (λ cs e lt no. absurd (never.0 no))

-- section 7 of an accepted file's cut lies in the file
pub from_fits : (s : List ℕ) (i ray : ℕ) (rec : RayRecord) (room : ℕ) → InWord (ray_return (from_answer s i ray rec room))
unfolding from_answer from_on
from_fits s i ray rec room =
    judged_fits any_data_checks any_own_inside s Err ray_return (λ r. refl) (λ c. ltb ray (rays_in s c)) (λ c. leb (bins_in s c) room) (λ c. usable_in s c rec) (λ c. (Ok tt)) i (λ c. refl)
    (λ cs e lt no.
    let file = any_exact.accepted_only s cs e in
    let inside = (any_cut_of s cs file i lt).data_inside in
    let large = file.large in
    omega arith)

-- ── of a dual-polarisation file ──

pub dual_open_fits : (s : List ℕ) → InWord (dual_open_return (D.open_answer s))
unfolding D.open_answer
dual_open_fits s = file_fits dual_checks dual-own-inside s Err dual_open_return (λ r. refl) (λ n c. Ok (D.summary_of s n c)) (λ n c. omega arith)

pub dual_cut_fits : (s : List ℕ) (i : ℕ) → InWord (dual_cut_return (D.cut_answer s i))
unfolding D.cut_answer
dual_cut_fits s i = cut_fits dual_checks dual-own-inside s Err dual_cut_return (λ r. refl) _ i (λ cs e lt. omega arith)

cell_returned : (x : Option Float) → bin_return (Ok x) ≡ 0
cell_returned None = refl
cell_returned (Some x) = refl

pub dual_bin_fits : (s : List ℕ) (i ray bin : ℕ) → InWord (bin_return (D.bin_answer s i ray bin))
unfolding D.bin_answer D.bin_on
dual_bin_fits s i ray bin =
    judged_fits dual_checks dual-own-inside s Err bin_return (λ r. refl) (λ c. ltb ray (rays_in s c) && ltb bin (bins_in s c)) (λ c. true) (λ c. true) _ i
    (λ c. cell_returned (told_in s c ray bin)) (λ cs e lt no. absurd (never.0 no))
