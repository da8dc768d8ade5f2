-- FORMAT.md, "To come", smaller file and rescue, for run-length packed files: what comes out is accepted, and the calls answer of each cut as they did.
use Prim.Native.Nat.{ℕ, zero, suc, ◌+◌, ◌/◌, ◌%◌, ◌≤◌, ◌<◌}
use mathlib.Core.Path.{◌≡◌, refl, sym, ◌∙◌, ap, subst}
use mathlib.Core.List.{List, [], ◌∷◌, map}
use mathlib.Core.Bool.{Bool, true, false, cond}
use native.Mathlib.Omega.{arith}
use native.Mathlib.Nat.{not-suc-le-zero, le_of_suc-le-suc, add-zero, zero-add}
use lib.Dec.{eqb}
use lib.IntN.{ℤ}
use lib.ListN.{length, get_or, take, length-map, get_or-map}
use Rattle.sections.specs.Accepted.{section_at}
use Rattle.sections.specs.Verdict.{default_cut}
use Rattle.sections.specs.declared.Cut.{Cut}
use Rattle.base_format.specs.Accepted.{base_format, Accepted}
use Rattle.base_format.proofs.First.{regular}
use Rattle.cuts.specs.Bins.{stretches_in}
use Rattle.files.specs.File.{Is, Parts, parts_at, Leading, File}
use Rattle.files.specs.Smaller.{chosen, cuts_after, assembled}
use Rattle.files.proofs.ToFile.{file_of}
use Rattle.files.proofs.Leading.{zero_is, one_is}
use Rattle.files.proofs.FromFile.{of_file}
use Rattle.files.proofs.Total.{assembled_one}
use Rattle.files.proofs.Smaller.{Some, chosen_some, assembled_file, smaller_file, smaller_short}
use Rattle.moved.specs.ByOctets.{stretches_by}
use Rattle.moved.specs.Wishes.{count_from, smaller_of}
use Rattle.moved.proofs.ByOctets.{by_octets}
use Rattle.polar.specs.Opening.{summary_of, open_answer}
use Rattle.moved.proofs.Opened.{same_open}
use Rattle.moved.proofs.Calls.{SameCalls, same_calls}
use Rattle.std.specs.Prelude.{Ok}

-- within a list no default counts
default_free : {A : Type 0} (l : List A) (i : ℕ) (d d' : A) → i < length l → get_or l i d ≡ get_or l i d'
default_free [] i d d' lt = absurd (not-suc-le-zero lt)
default_free (p ∷ l) zero d d' lt = refl
default_free (p ∷ l) (suc i) d d' lt = default_free l i d d' (le_of_suc-le-suc lt)

-- ── smaller file ──

chosen_map : {A B : Type 0} (f : A → B) (w : ℕ) (l : List A) → chosen w (map f l) ≡ map f (chosen w l)
chosen_map f w [] = refl
chosen_map {A} {B} f w (x ∷ l) = go (eqb (w % 2) 1) (chosen_map f (w / 2) l)
  where
    go : (b : Bool) → chosen (w / 2) (map f l) ≡ map f (chosen (w / 2) l)
        → cond b (f x ∷ chosen (w / 2) (map f l)) (chosen (w / 2) (map f l)) ≡ map f (cond b (x ∷ chosen (w / 2) l) (chosen (w / 2) l))
    go true e = ap {B = List B} (λ r. f x ∷ r) e
    go false e = e

-- a list by its numbers
by_number : (cs all : List Cut) (k : ℕ) → ((i : ℕ) → get_or cs i default_cut ≡ get_or all (k + i) default_cut) → cs ≡ map (λ j. get_or all j default_cut) (count_from k (length cs))
by_number [] all k h = refl
by_number (c ∷ cs) all k h =
    let here : c ≡ get_or all k default_cut = h 0 ∙ ap (λ (n : ℕ). get_or all n default_cut) (add-zero k) in
    let next : (i : ℕ) → get_or cs i default_cut ≡ get_or all (k + 1 + i) default_cut = λ i. h (suc i) ∙ ap (λ (n : ℕ). get_or all n default_cut) (shift k i) in
    (λ i. here i ∷ by_number cs all (k + 1) next i)
  where
    shift : (k i : ℕ) → k + suc i ≡ k + 1 + i
    shift k i = omega arith

-- the numbers are those of cuts
numbers_few : (w k n i : ℕ) → i < length (chosen w (count_from k n)) → get_or (chosen w (count_from k n)) i 0 < k + n
numbers_few w k zero i lt = absurd (not-suc-le-zero lt)
numbers_few w k (suc n) i lt = go (eqb (w % 2) 1) i lt (λ i h. numbers_few (w / 2) (k + 1) n i h)
  where
    go : (b : Bool) (i : ℕ) → i < length (cond b (k ∷ chosen (w / 2) (count_from (k + 1) n)) (chosen (w / 2) (count_from (k + 1) n)))
        → ((i : ℕ) → i < length (chosen (w / 2) (count_from (k + 1) n)) → get_or (chosen (w / 2) (count_from (k + 1) n)) i 0 < k + 1 + n)
        → get_or (cond b (k ∷ chosen (w / 2) (count_from (k + 1) n)) (chosen (w / 2) (count_from (k + 1) n))) i 0 < k + suc n
    go true zero h f = omega arith
    go true (suc i) h f = let x = f i (le_of_suc-le-suc h) in omega arith
    go false i h f = let x = f i h in omega arith

-- opened again, it has the product, time and site, and just the chosen cuts, octet for octet and in order, and every call answers of each as it did: it has
-- the stretch list it had
pub record Smaller (s : List ℕ) (cs : List Cut) (w : ℕ) (t : List ℕ) : Type 0 where
  pub ds : List Cut
  pub accepted : Accepted t ds
  pub no_longer : length t ≤ length s
  pub count : length ds ≡ length (chosen w (count_from 0 (length cs)))
  pub opens : open_answer t ≡ Ok (summary_of s (length ds) (get_or cs 0 default_cut))
  pub octets : (i : ℕ) → i < length ds → parts_at t (get_or ds i default_cut) ≡ parts_at s (get_or cs (get_or (chosen w (count_from 0 (length cs))) i 0) default_cut)
  pub calls : (i : ℕ) → i < length ds → SameCalls t i s (get_or (chosen w (count_from 0 (length cs))) i 0)

pub smaller : (s : List ℕ) (cs : List Cut) (w : ℕ) → Accepted s cs → 1 ≤ length (chosen w cs) → Smaller s cs w (smaller_of s cs w)
smaller s cs w a some =
    let ps = map (parts_at s) cs in
    let few = chosen w cs in
    let qs = map (parts_at s) few in
    let numbers = chosen w (count_from 0 (length cs)) in
    let all : cs ≡ map (λ j. get_or cs j default_cut) (count_from 0 (length cs)) = by_number cs cs 0 (λ i. ap (λ (n : ℕ). get_or cs n default_cut) (sym (zero-add i))) in
    let chose : few ≡ map (λ j. get_or cs j default_cut) numbers = ap (chosen w) all ∙ chosen_map (λ j. get_or cs j default_cut) w (count_from 0 (length cs)) in
    let file = file_of base_format s cs a in
    let sub : Some qs ps = subst (λ (x : List Parts). Some x ps) (chosen_map (parts_at s) w cs) (chosen_some w ps) in
    let n = length-map few (parts_at s) in
    let t = smaller_of s cs w in
    let same_file : assembled file.leading.zero file.leading.one (cuts_after [] qs) ≡ t =
    (λ i. assembled (sym (zero_is file.leading) i) (sym (one_is file.leading) i) (cuts_after [] qs)) in
    let made : File base_format t qs = subst (λ (x : List ℕ). File base_format x qs) same_file
    (smaller_file base_format s ps qs file sub regular (omega arith)) in
    let k = of_file base_format t qs made in
    let ds = k.cs in
    let same : length few ≡ length numbers = ap length chose ∙ length-map numbers (λ j. get_or cs j default_cut) in
    let count : length ds ≡ length numbers = sym (length-map ds (parts_at t)) ∙ ap length k.are ∙ n ∙ same in
    let there : (i : ℕ) → i < length ds → get_or few i default_cut ≡ get_or cs (get_or numbers i 0) default_cut =
    λ i lt.
    ap (λ (x : List Cut). get_or x i default_cut) chose
    ∙ default_free (map (λ j. get_or cs j default_cut) numbers) i default_cut (get_or cs 0 default_cut) (let m = length-map numbers (λ j. get_or cs j default_cut) in omega arith)
    ∙ get_or-map (λ j. get_or cs j default_cut) numbers i 0 in
    let here : (i : ℕ) → i < length ds → parts_at t (get_or ds i default_cut) ≡ parts_at s (get_or cs (get_or numbers i 0) default_cut) =
    λ i lt.
    sym (get_or-map (parts_at t) ds i default_cut)
    ∙ ap (λ (x : List Parts). get_or x i (parts_at t default_cut)) k.are
    ∙ default_free qs i (parts_at t default_cut) (parts_at s default_cut) (omega arith)
    ∙ get_or-map (parts_at s) few i default_cut
    ∙ ap (parts_at s) (there i lt) in
    record {
      ds = ds;
      accepted = k.accepted;
      no_longer = subst (λ (x : List ℕ). length x ≤ length s) same_file (smaller_short base_format s ps qs file sub regular (omega arith));
      count = count;
      opens =
          same_open s t cs ds a k.accepted (get_or numbers 0 0) (omega arith) (let x = numbers_few w 0 (length cs) 0 (omega arith) in omega arith) (here 0 (omega arith))
          (assembled_one (take 16 s) (section_at s 16) (cuts_after [] qs) (ap length (zero_is file.leading) ∙ file.leading.zero_long)
          (subst (Is 1) (sym (one_is file.leading)) file.leading.one_here));
      octets = here;
      calls =
          λ i lt.
          let x = numbers_few w 0 (length cs) i (omega arith) in
          same_calls t s ds cs k.accepted a i (get_or numbers i 0) lt (omega arith) (here i lt);
    }

-- ── rescue ──

-- what comes out is accepted, and its stretch lists are those of the kept cuts
pub record Rescued (ps : List Parts) (t : List ℕ) : Type 0 where
  pub ds : List Cut
  pub accepted : Accepted t ds
  pub are : map (parts_at t) ds ≡ ps
  pub stretches : (i : ℕ) → i < length ds → (x : ℤ) (ray bin : ℕ) → stretches_in t (get_or ds i default_cut) x ray bin ≡ stretches_by (get_or ps i (parts_at t default_cut)) x ray bin

pub rescued : (s : List ℕ) (ps : List Parts) (left : List ℕ) (a : Leading base_format s ps left) → 1 ≤ length ps → length ps ≤ 64 → length a.cuts ≤ 8388567
    → Rescued ps (assembled a.zero a.one a.cuts)
rescued s ps left a some few small =
    let t = assembled a.zero a.one a.cuts in
    let k = of_file base_format t ps (assembled_file base_format s ps left a some few small) in
    record {
      ds = k.cs;
      accepted = k.accepted;
      are = k.are;
      stretches =
          λ i lt x ray bin.
          (by_octets t k.cs k.accepted i lt).stretches_are x ray bin
          ∙ ap (λ (p : Parts). stretches_by p x ray bin) (sym (get_or-map (parts_at t) k.cs i default_cut) ∙ ap (λ (l : List Parts). get_or l i (parts_at t default_cut)) k.are);
    }
