-- The row of records, as it is filled: i records are laid at its front, and the walk has n - i rays to come.
use Prim.Native.Nat.{ℕ, suc, ◌+◌, ◌-◌, ◌*◌, ◌≤◌, ◌<◌}
use mathlib.Core.Path.{◌≡◌, refl, sym, ap, subst, ◌∙◌}
use mathlib.Core.List.{List, ◌++◌, append-nil}
use native.Mathlib.Omega.{arith}
use native.Mathlib.Nat.{suc-mul}
use lib.ListN.{length, take, drop, set, length-append, length-drop, drop_of_length-le}
use lib.Seq.{length-take-le}
use Rattle.runs.specs.Run.{levels}
use Rattle.lent.specs.Lent.{front}
use Rattle.index.specs.declared.RayRecord.{RayRecord}
use Rattle.index.specs.declared.Pace.{Pace}
use Rattle.index.specs.Index.{record_of, records}
use Rattle.index.specs.Pace.{data_in, Along, Onward, Going}
use Rattle.index.proofs.Records.{records_more, length_records, front_put}

-- the walk after i rays
pub record After (s : List ℕ) (p₀ : Pace) (n i : ℕ) (p : Pace) : Type 0 where
  pub le : i ≤ n
  pub same_from : p.from ≡ p₀.from
  pub same_to : p.to ≡ p₀.to
  pub same_v : p.v ≡ p₀.v
  pub same_nb : p.nb ≡ p₀.nb
  pub bin : p.bin ≡ p₀.bin + i * p₀.nb
  pub going : Going s p (n - i)

pub after_none : (s : List ℕ) (p₀ : Pace) (n : ℕ) → Going s p₀ n → After s p₀ n 0 p₀
after_none s p₀ n g = record {
  le = omega arith;
  same_from = refl;
  same_to = refl;
  same_v = refl;
  same_nb = refl;
  bin = omega arith;
  going = record { order = g.order; reach = g.reach; along = g.along; left = λ k h. g.left k (omega arith) };
}

module _ (s : List ℕ) (p₀ : Pace) (n i : ℕ) (p : Pace) (t : After s p₀ n i p) (more : i < n) where
  pub after_asks : Going s p 1
  after_asks = let g = t.going in record { order = g.order; reach = g.reach; along = g.along; left = λ k h. g.left k (omega arith) }

  module _ (r : Pace) (on : Onward (data_in s p) p r) where
    same_data : data_in s p ≡ data_in s r
    same_data = sym (λ j. take (on.same_to j - on.same_from j) (drop (on.same_from j) s))

    same_levels : levels p.v (data_in s p) ≡ levels r.v (data_in s r)
    same_levels = λ j. levels (sym on.same_v j) (same_data j)

    pub after_next : After s p₀ n (i + 1) r
    after_next =
        let g = t.going in
        record {
          le = omega arith;
          same_from = on.same_from ∙ t.same_from;
          same_to = on.same_to ∙ t.same_to;
          same_v = on.same_v ∙ t.same_v;
          same_nb = on.same_nb ∙ t.same_nb;
          bin = let many : (i + 1) * p₀.nb ≡ i * p₀.nb + p₀.nb = omega (arith, suc-mul i p₀.nb) in omega (arith, on.bin, t.bin, t.same_nb);
          going = record {
            order = omega (arith, on.same_from, on.same_to, g.order);
            reach = omega (arith, on.same_to, g.reach);
            along = subst (λ (d : List ℕ). Along d r) same_data on.along;
            left = λ k h.
                let next = g.left (k + 1) (omega arith) in
                let many : (k + 1) * p.nb ≡ k * p.nb + p.nb = omega (arith, suc-mul k p.nb) in
                let same : k * r.nb ≡ k * p.nb = ap (λ (m : ℕ). k * m) on.same_nb in
                omega (arith, next, many, same, on.bin, ap length same_levels);
          };
        }

-- ---- the row
module _ (s : List ℕ) (p₀ : Pace) (ys : List RayRecord) where
  abbrev pub laid : ℕ → List RayRecord
  laid i = front (records i p₀.nb p₀.v (data_in s p₀) p₀.bin) ys

  pub laid_none : ys ≡ laid 0
  unfolding records
  laid_none = refl

  pub length_laid : (i : ℕ) → i ≤ length ys → length (laid i) ≡ length ys
  length_laid i h = simp (length-append, length-drop) (omega (arith, length_records p₀.nb p₀.v (data_in s p₀) i p₀.bin))

  pub laid_next : (n i : ℕ) (p r : Pace) → After s p₀ n i p → Onward (data_in s p) p r → i < length ys → set (laid i) i r.rec ≡ laid (i + 1)
  laid_next n i p r t on h =
      let rows = records i p₀.nb p₀.v (data_in s p₀) p₀.bin in
      let size = length_records p₀.nb p₀.v (data_in s p₀) i p₀.bin in
      let data₀ : data_in s p ≡ data_in s p₀ = λ j. take (t.same_to j - t.same_from j) (drop (t.same_from j) s) in
      let rec : r.rec ≡ record_of p₀.v (data_in s p₀) 0 (p₀.bin + i * p₀.nb) = on.rec ∙ (λ j. record_of (t.same_v j) (data₀ j) 0 (t.bin j)) in
      let one : suc i ≡ i + 1 = omega arith in
      (λ j. set (laid i) (sym size j) (rec j))
      ∙ front_put rows ys (record_of p₀.v (data_in s p₀) 0 (p₀.bin + i * p₀.nb)) (omega (arith, size))
      ∙ ap (λ (l : List RayRecord). front l ys) (sym (records_more p₀.nb p₀.v (data_in s p₀) i p₀.bin) ∙ ap (λ (m : ℕ). records m p₀.nb p₀.v (data_in s p₀) p₀.bin) one)

-- what is laid in the part of a row that it fills, and the rest of the row
pub laid_front : (s : List ℕ) (p₀ : Pace) (row : List RayRecord) (n : ℕ) → n ≤ length row → laid s p₀ (take n row) n ++ drop n row ≡ laid s p₀ row n
laid_front s p₀ row n h =
    let rows : List RayRecord = records n p₀.nb p₀.v (data_in s p₀) p₀.bin in
    let size = length_records p₀.nb p₀.v (data_in s p₀) n p₀.bin in
    let none = drop_of_length-le (take n row) (omega (arith, size, length-take-le n row h)) in
    ap (λ (l : List RayRecord). (rows ++ l) ++ drop n row) none ∙ ap (λ (l : List RayRecord). l ++ drop n row) (append-nil rows) ∙ ap (λ (m : ℕ). rows ++ drop m row) (sym size)
