-- A cut of each of two accepted files, with the same octets: every call answers the same of both, and leaves the same in lent memory.
use Prim.Native.Nat.{ℕ, ◌+◌, ◌*◌, ◌<◌}
use mathlib.Core.Path.{◌≡◌, sym, ◌∙◌, ap}
use mathlib.Core.List.{List}
use mathlib.Core.Bool.{true, ◌&&◌}
use lib.Dec.{ltb, leb}
use lib.ListN.{length, get_or, take, drop}
use lib.IntN.{ℤ}
use Rattle.rules.specs.Rules.{field}
use Rattle.rules.specs.Fields.{bins_at, rays_at}
use Rattle.lent.specs.Lent.{front}
use Rattle.values.specs.Reading.{reading_of}
use Rattle.values.specs.Ray.{marks_of, values_of}
use Rattle.sections.specs.Verdict.{default_cut}
use Rattle.sections.specs.Parts.{bins_in, rays_in, grid_at}
use Rattle.sections.specs.declared.Cut.{Cut}
use Rattle.sections.specs.declared.Refusal.{Refusal}
use Rattle.base_format.specs.Parts.{product_in, levels_in, level_in}
use Rattle.base_format.specs.Checks.{base_checks}
use Rattle.base_format.specs.Verdict.{verdict}
use Rattle.base_format.specs.Accepted.{base_format, Accepted}
use Rattle.base_format.proofs.Exact.{exact}
use Rattle.stretches.specs.Stretch.{per_entry}
use Rattle.stretches.specs.Call.{right_t, right_point, answer_of, out_of}
use Rattle.cuts.specs.Bins.{bins_from, ray_in, stretches_in}
use Rattle.calls.specs.Cuts.{on_cut, judged, cut_at, cut_in, if_written}
use Rattle.polar.specs.Opening.{elevation_of, info_of, cut_answer}
use Rattle.polar.specs.Rays.{ray_on, ray_answer, levels_after, marks_after, values_after, bin_of, bin_on, bin_answer}
use Rattle.polar.specs.Stretching.{stretches_on, stretch_answer, if_listed, words_after}
use Rattle.calls.proofs.ByVerdict.{cut_accepted}
use Rattle.files.specs.File.{Parts, parts_at}
use Rattle.moved.specs.ByOctets.{product_by, levels_by, stretches_by}
use Rattle.moved.proofs.ByOctets.{ByOctets, by_octets}
use Rattle.stretches.specs.declared.Listing.{Listing}
use Rattle.std.specs.Prelude.{Err, Ok, Result, ⊤}

-- cut i of one file and cut j of another: every call answers the same
pub record SameCalls (s : List ℕ) (i : ℕ) (t : List ℕ) (j : ℕ) : Type 0 where
  pub cut : cut_answer s i ≡ cut_answer t j
  pub rays : (ray room : ℕ) → ray_answer s i ray room ≡ ray_answer t j ray room
  pub levels : (a : Result ⊤ Refusal) (ray : ℕ) (out : List ℕ) → levels_after a s i ray out ≡ levels_after a t j ray out
  pub marks : (a : Result ⊤ Refusal) (ray : ℕ) (out : List ℕ) → marks_after a s i ray out ≡ marks_after a t j ray out
  pub values : (a : Result ⊤ Refusal) (ray : ℕ) (out : List ℤ) → values_after a s i ray out ≡ values_after a t j ray out
  pub bin : (ray bin : ℕ) → bin_answer s i ray bin ≡ bin_answer t j ray bin
  pub stretches : (x : ℤ) (ray bin room : ℕ) → stretch_answer s i x ray bin room ≡ stretch_answer t j x ray bin room
  pub words : (a : Result Listing Refusal) (x : ℤ) (ray bin : ℕ) (out : List ℕ) → words_after a s i x ray bin out ≡ words_after a t j x ray bin out

-- two cuts of which all is said alike
module _ (s t : List ℕ) (c d : Cut) (p q : Parts) (m : ByOctets s c p) (n : ByOctets t d q) (e : p ≡ q) where
  bins : bins_in s c ≡ bins_in t d
  bins = m.bins ∙ ap (λ (x : Parts). bins_at x.three 0) e ∙ sym n.bins

  rays : rays_in s c ≡ rays_in t d
  rays = m.rays ∙ ap (λ (x : Parts). rays_at x.three 0) e ∙ sym n.rays

  product : product_in s c ≡ product_in t d
  product = m.product ∙ ap product_by e ∙ sym n.product

  levels : levels_in s c ≡ levels_in t d
  levels = m.levels_are ∙ ap levels_by e ∙ sym n.levels_are

  stretches : (x : ℤ) (ray bin : ℕ) → stretches_in s c x ray bin ≡ stretches_in t d x ray bin
  stretches x ray bin = m.stretches_are x ray bin ∙ ap (λ (r : Parts). stretches_by r x ray bin) e ∙ sym (n.stretches_are x ray bin)

  info : info_of s c ≡ info_of t d
  unfolding info_of
  info =
      let grid = m.grid ∙ ap (λ (x : Parts). grid_at x.three 0) e ∙ sym n.grid in
      let azimuth = m.azimuth ∙ ap (λ (x : Parts). field x.three 0 40 2) e ∙ sym n.azimuth in
      let mode = m.mode ∙ ap (λ (x : Parts). field x.four 0 38 1) e ∙ sym n.mode in
      let up = m.elevation ∙ ap (λ (x : Parts). field x.four 0 42 2) e ∙ sym n.elevation in
      (λ i. record { grid = grid i; start_azimuth = azimuth i; mode = mode i; elevation = elevation_of (up i) })

  ray_in_lem : (ray : ℕ) → ray_in s c ray ≡ ray_in t d ray
  unfolding ray_in bins_from
  ray_in_lem ray = (λ i. take (bins i) (drop (ray * bins i) (levels i)))

  ray_on_lem : (ray room : ℕ) → ray_on s ray room c ≡ ray_on t ray room d
  unfolding ray_on
  ray_on_lem ray room = (λ i. judged Err c (ltb ray (rays i)) (leb (bins i) room) true (Ok tt))

  bin_on_lem : (ray bin : ℕ) → bin_on s ray bin c ≡ bin_on t ray bin d
  unfolding bin_on level_in
  bin_on_lem ray bin =
      (λ i. judged Err c (ltb ray (rays i) && ltb bin (bins i)) true true (Ok (bin_of (reading_of (product i) (get_or (levels i) (ray * bins i + bin) 0)))))

  stretches_on_lem : (x : ℤ) (ray bin room : ℕ) → stretches_on s x ray bin room c ≡ stretches_on t x ray bin room d
  unfolding stretches_on
  stretches_on_lem x ray bin room =
      (λ i. judged Err c (right_t x && right_point (bins i) (rays i) ray bin) (leb per_entry room) true (Ok (answer_of (rays i) room (stretches x ray bin i))))

module _ (s : List ℕ) (cs : List Cut) (a : Accepted s cs) (i : ℕ) (lt : i < length cs) where
  cut_is : cut_in s i ≡ get_or cs i default_cut
  unfolding cut_at
  cut_is = ap (cut_at i) (exact.accepted_all s cs a)

  on_its_cut : {X : Type 0} (bad : Refusal → X) (some : Cut → X) → on_cut bad some i (verdict s) ≡ some (get_or cs i default_cut)
  on_its_cut bad some = cut_accepted base_checks base_format exact s bad some i cs a lt

pub same_calls : (s t : List ℕ) (cs ds : List Cut) → Accepted s cs → Accepted t ds → (i j : ℕ) → i < length cs → j < length ds
    → parts_at s (get_or cs i default_cut) ≡ parts_at t (get_or ds j default_cut) → SameCalls s i t j
unfolding cut_answer ray_answer levels_after marks_after values_after bin_answer stretch_answer words_after
same_calls s t cs ds a b i j lt lu e =
    let c = get_or cs i default_cut in
    let d = get_or ds j default_cut in
    let p = parts_at s c in
    let q = parts_at t d in
    let m = by_octets s cs a i lt in
    let n = by_octets t ds b j lu in
    let x = cut_is s cs a i lt in
    let y = cut_is t ds b j lu in
    let product_of : product_in s (cut_in s i) ≡ product_in t (cut_in t j) = ap (product_in s) x ∙ product s t c d p q m n e ∙ sym (ap (product_in t) y) in
    let ray_of : (ray : ℕ) → ray_in s (cut_in s i) ray ≡ ray_in t (cut_in t j) ray =
    λ ray. ap (λ (z : Cut). ray_in s z ray) x ∙ ray_in_lem s t c d p q m n e ray ∙ sym (ap (λ (z : Cut). ray_in t z ray) y) in
    let list_of : (v : ℤ) (ray bin : ℕ) → stretches_in s (cut_in s i) v ray bin ≡ stretches_in t (cut_in t j) v ray bin =
    λ v ray bin. ap (λ (z : Cut). stretches_in s z v ray bin) x ∙ stretches s t c d p q m n e v ray bin ∙ sym (ap (λ (z : Cut). stretches_in t z v ray bin) y) in
    record {
      cut = on_its_cut s cs a i lt _ _ ∙ ap Ok (info s t c d p q m n e) ∙ sym (on_its_cut t ds b j lu _ _);
      rays = λ ray room. on_its_cut s cs a i lt _ _ ∙ ray_on_lem s t c d p q m n e ray room ∙ sym (on_its_cut t ds b j lu _ _);
      levels = λ r ray out. ap (λ (l : List ℕ). if_written r (front l out) out) (ray_of ray);
      marks = λ r ray out. (λ k. if_written r (marks_of (product_of k) (ray_of ray k) out) out);
      values = λ r ray out. (λ k. if_written r (values_of (product_of k) (ray_of ray k) out) out);
      bin = λ ray bin. on_its_cut s cs a i lt _ _ ∙ bin_on_lem s t c d p q m n e ray bin ∙ sym (on_its_cut t ds b j lu _ _);
      stretches = λ v ray bin room. on_its_cut s cs a i lt _ _ ∙ stretches_on_lem s t c d p q m n e v ray bin room ∙ sym (on_its_cut t ds b j lu _ _);
      words = λ r v ray bin out. ap (λ l. if_listed r (out_of out l) out) (list_of v ray bin);
    }
