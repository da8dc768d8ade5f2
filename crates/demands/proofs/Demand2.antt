-- DEMAND 2. A file is accepted exactly when it meets the layouts and limits of FORMAT.md and each cut's data decodes to exactly its bins. The ray and bin
-- calls answer for exactly those bins, at the ray and bin asked. Each level above 0 gets its published value; level 0 never gets a number. Levels written
-- as run-length octets read back. The idea: on an accepted file each answer is that of the cut asked for, and the cut's bins are what its data decodes to.
use Prim.Native.Nat.{ℕ, ◌*◌, ◌≤◌, ◌<◌, min}
use mathlib.Core.Path.{◌≡◌, sym, ◌∙◌, ap}
use mathlib.Core.List.{List}
use native.Mathlib.Omega.{arith}
use borrow.Author.Tests.{lt-ltb, le-leb}
use lib.ListN.{length, get_or, take}
use lib.IntN.{ℤ, pos}
use Rattle.fraction.specs.Near.{NearZ}
use Rattle.fraction.specs.Quotient.{hundredths}
use Rattle.runs.specs.Runs.{Decodes}
use Rattle.lent.specs.Lent.{front}
use Rattle.bare.specs.Read.{ReadPromise}
use Rattle.runs.proofs.Meaning.{levels_decode}
use Rattle.bare.specs.Write.{WritePromise}
use Rattle.bare.proofs.Write.{read_back}
use Rattle.values.specs.Published.{published}
use Rattle.values.specs.Reading.{reading_of, mark_of, held_of}
use Rattle.values.specs.declared.Reading.{Reading}
use Rattle.values.specs.Ray.{marks_of, values_of}
use Rattle.values.proofs.Readings.{no_number, its_number, published_near}
use Rattle.values.proofs.Ray.{mark_at_lem, value_at}
use Rattle.sections.specs.Parts.{bins_in, rays_in}
use Rattle.base_format.specs.Parts.{data_at, product_in, greatest_in, levels_in, level_in}
use Rattle.sections.specs.Verdict.{default_cut}
use Rattle.base_format.specs.Verdict.{verdict}
use Rattle.base_format.specs.Checks.{base_checks}
use Rattle.base_format.specs.Accepted.{base_format, Accepted}
use Rattle.base_format.specs.Good.{GoodCut}
use Rattle.sections.specs.declared.Cut.{Cut}
use Rattle.sections.specs.declared.Refusal.{Refusal}
use Rattle.base_format.proofs.Exact.{exact}
use Rattle.base_format.proofs.GoodCuts.{good_accepted}
use Rattle.cuts.specs.Bins.{ray_in}
use Rattle.cuts.proofs.Places.{data_opens, all_bins, level_few}
use Rattle.cuts.proofs.Rays.{ray_length, ray_bin}
use Rattle.calls.specs.Cuts.{on_cut, cut_at}
use Rattle.calls.proofs.ByVerdict.{file_accepted, by_file_verdict, cut_accepted}
use Rattle.polar.specs.Opening.{summary_of, open_answer, info_of, cut_answer}
use Rattle.polar.specs.Rays.{ray_on, ray_answer, levels_after, marks_after, values_after, bin_of, bin_on, bin_answer}
use Rattle.polar.specs.declared.Summary.{Summary}
use Rattle.polar.specs.Promises.{OpenPromise, CutPromise, LevelsPromise, ValuesPromise, BinPromise}
use Rattle.demands.proofs.Lent.{front_at, front_past, updated_beyond}
use Rattle.bare.specs.declared.ReadRefusal.{ReadRefusal}
use Rattle.polar.specs.declared.CutInfo.{CutInfo}
use Rattle.std.specs.Prelude.{Err, None, Ok, Option, Result, Some, ⊤, Float}

-- ── accepted exactly ──

pub accepted_open : (s : List ℕ) (cs : List Cut) (r : Result Summary Refusal) → Accepted s cs → OpenPromise s r → r ≡ Ok (summary_of s (length cs) (get_or cs 0 default_cut))
unfolding open_answer
accepted_open s cs r a p = p.answer ∙ file_accepted base_checks base_format exact s _ _ cs a

pub record AcceptedAs (s : List ℕ) (m : Summary) : Type 0 where
  pub cs : List Cut
  pub accepts : Accepted s cs
  pub summary : m ≡ summary_of s (length cs) (get_or cs 0 default_cut)

pub open_accepted : (s : List ℕ) (m : Summary) → OpenPromise s (Ok m) → AcceptedAs s m
unfolding open_answer
open_accepted s m p =
    by_file_verdict base_checks base_format exact s Err (λ n c. Ok (summary_of s n c)) (Ok m) (AcceptedAs s m)
    (λ r k e. let z : ◌≡◌ {A = ℕ} 0 1 = cc e in absurd (omega arith))
    (λ cs k e. record { cs = cs; accepts = k; summary = cc e })
    (sym p.answer)

-- ── a cut of an accepted file ──

module _ (s : List ℕ) (cs : List Cut) (a : Accepted s cs) (i : ℕ) (lt : i < length cs) where
  abbrev pub cut : Cut
  cut = get_or cs i default_cut

  good : GoodCut s cut
  good = good_accepted s cs a i lt

  pub on_accepted : {A : Type 0} (bad : Refusal → A) (some : Cut → A) → on_cut bad some i (verdict s) ≡ some cut
  on_accepted bad some = cut_accepted base_checks base_format exact s bad some i cs a lt

  pub cut_is : cut_at i (verdict s) ≡ cut
  unfolding cut_at
  cut_is = ap (cut_at i) (exact.accepted_all s cs a)

  -- its data decodes, by template 7.200, to exactly Nb x Nr levels: these are its bins
  pub bins_decode : Decodes (greatest_in s cut) (data_at s cut.section7) (levels_in s cut) × (length (levels_in s cut) ≡ rays_in s cut * bins_in s cut)
  unfolding levels_in
  bins_decode = (levels_decode (greatest_in s cut) (data_at s cut.section7) (data_opens s cut good), all_bins s cut good)

  pub cut_answers : (r : Result CutInfo Refusal) → CutPromise s i r → r ≡ Ok (info_of s cut)
  unfolding cut_answer
  cut_answers r p = p.answer ∙ on_accepted _ _

  module _ (ray : ℕ) (h : ray < rays_in s cut) where
    ray_written : (room : ℕ) → bins_in s cut ≤ room → ray_answer s i ray room ≡ (Ok tt)
    unfolding ray_answer ray_on
    ray_written room k = on_accepted _ _ ∙ rw (lt-ltb ray (rays_in s cut) h, le-leb (bins_in s cut) room k)

    -- ray levels: bin b of the ray at place b, and past Nb all as it was
    pub levels_answer : (out out' : List ℕ) (r : Result ⊤ Refusal) → bins_in s cut ≤ length out → LevelsPromise s i ray out r out'
        → (r ≡ (Ok tt))
        × ((b : ℕ) → b < bins_in s cut → get_or out' b 0 ≡ level_in s cut ray b)
        × ((b : ℕ) → bins_in s cut ≤ b → get_or out' b 0 ≡ get_or out b 0)
    unfolding levels_after
    levels_answer out out' r k p =
        let w = p.answer ∙ ray_written (length out) k in
        let n = ray_length s cut good ray h in
        let e : out' ≡ front (ray_in s cut ray) out =
        p.after ∙ ap (λ (x : Result ⊤ Refusal). levels_after x s i ray out) w ∙ ap (λ (c : Cut). front (ray_in s c ray) out) cut_is in (
          w,
          (λ b in_ray. ap (λ (l : List ℕ). get_or l b 0) e ∙ front_at (ray_in s cut ray) out b (omega arith) ∙ ray_bin s cut good ray h b in_ray),
          (λ b beyond. ap (λ (l : List ℕ). get_or l b 0) e ∙ front_past (ray_in s cut ray) out b (omega arith)),
        )

    -- ray values: the mark and the value of bin b's level at place b, and past Nb all as it was
    pub values_answer : (marks marks' : List ℕ) (values values' : List ℤ) (r : Result ⊤ Refusal) → bins_in s cut ≤ length marks → bins_in s cut ≤ length values
        → ValuesPromise s i ray marks values r marks' values'
        → (r ≡ (Ok tt))
        × ((b : ℕ) → b < bins_in s cut → get_or marks' b 0 ≡ mark_of (reading_of (product_in s cut) (level_in s cut ray b)))
        × ((b : ℕ) → b < bins_in s cut → get_or values' b (pos 0) ≡ held_of (reading_of (product_in s cut) (level_in s cut ray b)) (get_or values b (pos 0)))
        × ((b : ℕ) → bins_in s cut ≤ b → (get_or marks' b 0 ≡ get_or marks b 0) × (get_or values' b (pos 0) ≡ get_or values b (pos 0)))
    unfolding marks_after values_after marks_of values_of
    values_answer marks marks' values values' r km kv p =
        let P = product_in s cut in
        let w = p.answer ∙ ray_written (min (length marks) (length values)) (omega arith) in
        let n = ray_length s cut good ray h in
        let em : marks' ≡ marks_of P (ray_in s cut ray) marks =
        p.marked ∙ ap (λ (x : Result ⊤ Refusal). marks_after x s i ray marks) w ∙ ap (λ (c : Cut). marks_of (product_in s c) (ray_in s c ray) marks) cut_is in
        let ev : values' ≡ values_of P (ray_in s cut ray) values =
        p.valued ∙ ap (λ (x : Result ⊤ Refusal). values_after x s i ray values) w ∙ ap (λ (c : Cut). values_of (product_in s c) (ray_in s c ray) values) cut_is in (
          w,
          (λ b in_ray.
              ap (λ (l : List ℕ). get_or l b 0) em
              ∙ mark_at_lem P (ray_in s cut ray) marks b (omega arith) (omega arith)
              ∙ ap (λ (l : ℕ). mark_of (reading_of P l)) (ray_bin s cut good ray h b in_ray)),
          (λ b in_ray.
              ap (λ (l : List ℤ). get_or l b (pos 0)) ev
              ∙ value_at P (ray_in s cut ray) values b (omega arith) (omega arith)
              ∙ ap (λ (l : ℕ). held_of (reading_of P l) (get_or values b (pos 0))) (ray_bin s cut good ray h b in_ray)),
          (λ b beyond. (
            ap (λ (l : List ℕ). get_or l b 0) em ∙ updated_beyond _ (ray_in s cut ray) marks 0 b (omega arith),
            ap (λ (l : List ℤ). get_or l b (pos 0)) ev ∙ updated_beyond _ (ray_in s cut ray) values (pos 0) b (omega arith),
          )),
        )

    -- bin value: the reading of that bin's level
    pub bin_answer_lem : (bin : ℕ) (r : Result (Option Float) Refusal) → bin < bins_in s cut → BinPromise s i ray bin r → r ≡ Ok (bin_of (reading_of (product_in s cut) (level_in s cut ray bin)))
    unfolding bin_answer bin_on
    bin_answer_lem bin r k p = p.answer ∙ on_accepted _ _ ∙ rw (lt-ltb ray (rays_in s cut) h, lt-ltb bin (bins_in s cut) k)

-- ── the published values; level 0 never gets a number ──

module _ (s : List ℕ) (cs : List Cut) (a : Accepted s cs) (i : ℕ) (lt : i < length cs) (ray : ℕ) (h : ray < rays_in s (get_or cs i default_cut)) (bin : ℕ)
    (k : bin < bins_in s (get_or cs i default_cut)) where
  -- level 0: the bin call answers missing, the mark is 0 and the value's place keeps what it held
  pub missing_bin : level_in s (get_or cs i default_cut) ray bin ≡ 0 → (r : Result (Option Float) Refusal) → BinPromise s i ray bin r → r ≡ (Ok None)
  unfolding bin_of
  missing_bin z r p =
      bin_answer_lem s cs a i lt ray h bin r k p
      ∙ ap (λ (x : Reading). Ok (bin_of x)) (ap (reading_of (product_in s (get_or cs i default_cut))) z ∙ no_number (product_in s (get_or cs i default_cut)))

  pub missing_values : level_in s (get_or cs i default_cut) ray bin ≡ 0 → (marks marks' : List ℕ) (values values' : List ℤ) (r : Result ⊤ Refusal)
      → bins_in s (get_or cs i default_cut) ≤ length marks → bins_in s (get_or cs i default_cut) ≤ length values → ValuesPromise s i ray marks values r marks' values'
      → (get_or marks' bin 0 ≡ 0) × (get_or values' bin (pos 0) ≡ get_or values bin (pos 0))
  unfolding mark_of held_of
  missing_values z marks marks' values values' r km kv p =
      let P = product_in s (get_or cs i default_cut) in
      let w = values_answer s cs a i lt ray h marks marks' values values' r km kv p in
      let e = ap (reading_of P) z ∙ no_number P in
      (w.1 bin k ∙ ap mark_of e, w.2 bin k ∙ ap (λ x. held_of x (get_or values bin (pos 0))) e)

  -- any other level: its published value, in all calls; the float lies within one part in 2^53 of it
  pub measured_bin : 1 ≤ level_in s (get_or cs i default_cut) ray bin → (r : Result (Option Float) Refusal) → BinPromise s i ray bin r
      → r ≡ Ok (Some (hundredths (published (product_in s (get_or cs i default_cut)) (level_in s (get_or cs i default_cut) ray bin))))
  unfolding bin_of
  measured_bin one r p =
      bin_answer_lem s cs a i lt ray h bin r k p
      ∙ ap (λ (x : Reading). Ok (bin_of x)) (its_number (product_in s (get_or cs i default_cut)) (level_in s (get_or cs i default_cut) ray bin) one)

  pub measured_values : 1 ≤ level_in s (get_or cs i default_cut) ray bin → (marks marks' : List ℕ) (values values' : List ℤ) (r : Result ⊤ Refusal)
      → bins_in s (get_or cs i default_cut) ≤ length marks → bins_in s (get_or cs i default_cut) ≤ length values → ValuesPromise s i ray marks values r marks' values'
      → (get_or marks' bin 0 ≡ 1) × (get_or values' bin (pos 0) ≡ published (product_in s (get_or cs i default_cut)) (level_in s (get_or cs i default_cut) ray bin))
  unfolding mark_of held_of
  measured_values one marks marks' values values' r km kv p =
      let P = product_in s (get_or cs i default_cut) in
      let w = values_answer s cs a i lt ray h marks marks' values values' r km kv p in
      let e = its_number P (level_in s (get_or cs i default_cut) ray bin) one in
      (w.1 bin k ∙ ap mark_of e, w.2 bin k ∙ ap (λ x. held_of x (get_or values bin (pos 0))) e)

  -- the three calls tell the same: the bin value is that of the ray value, which is that of the ray level
  pub three_calls : (out out' marks marks' : List ℕ) (values values' : List ℤ) (rl rv : Result ⊤ Refusal) (rb : Result (Option Float) Refusal)
      → bins_in s (get_or cs i default_cut) ≤ length out → bins_in s (get_or cs i default_cut) ≤ length marks → bins_in s (get_or cs i default_cut) ≤ length values
      → LevelsPromise s i ray out rl out' → ValuesPromise s i ray marks values rv marks' values' → BinPromise s i ray bin rb
      → (rb ≡ Ok (bin_of (reading_of (product_in s (get_or cs i default_cut)) (get_or out' bin 0))))
      × (get_or marks' bin 0 ≡ mark_of (reading_of (product_in s (get_or cs i default_cut)) (get_or out' bin 0)))
      × (get_or values' bin (pos 0) ≡ held_of (reading_of (product_in s (get_or cs i default_cut)) (get_or out' bin 0)) (get_or values bin (pos 0)))
  three_calls out out' marks marks' values values' rl rv rb ko km kv pl pv pb =
      let P = product_in s (get_or cs i default_cut) in
      let l = sym ((levels_answer s cs a i lt ray h out out' rl ko pl).1 bin k) in
      let w = values_answer s cs a i lt ray h marks marks' values values' rv km kv pv in (
        bin_answer_lem s cs a i lt ray h bin rb k pb ∙ ap (λ (x : ℕ). Ok (bin_of (reading_of P x))) l,
        w.1 bin k ∙ ap (λ (x : ℕ). mark_of (reading_of P x)) l,
        w.2 bin k ∙ ap (λ (x : ℕ). held_of (reading_of P x) (get_or values bin (pos 0))) l,
      )

  -- the float of a measured bin lies within one part in 2^53 of the exact hundredths
  pub near_value : 1 ≤ level_in s (get_or cs i default_cut) ray bin
      → NearZ 53 (hundredths (published (product_in s (get_or cs i default_cut)) (level_in s (get_or cs i default_cut) ray bin))) (published (product_in s (get_or cs i default_cut)) (level_in s (get_or cs i default_cut) ray bin)) 100
  near_value one =
      let c = get_or cs i default_cut in
      let g = good_accepted s cs a i lt in
      published_near (product_in s c) (level_in s c ray bin) one (level_few s c g ray bin)

-- ── read back ──

-- what run write writes, read with the V it answers, gives the same levels
pub written_reads_back : {levels octets octets' : List ℕ} {v n : ℕ} → WritePromise levels octets (Ok (record { v = v; len = n })) octets'
    → {room room' : List ℕ} {r : Result ⊤ ReadRefusal} → length levels ≤ length room → ReadPromise v (length levels) (take n octets') room r room'
    → (r ≡ (Ok tt)) × (room' ≡ front levels room)
written_reads_back w room p = read_back w room p
