-- THE PACKING IS AS SHORT AS CAN BE. No octets that read back as the levels that run write was handed are fewer than it wrote, whatever V they are read under. The idea: octets that give levels are
-- never fewer than those written for these levels (packing `shortest`); the promises say that it is these that are written, and that what is read is what the octets give.
use Prim.Native.Nat.{ℕ, zero, suc, ◌+◌, ◌-◌, ◌≤◌, ◌<◌}
use mathlib.Core.Path.{◌≡◌, refl, sym, ap, ◌∙◌}
use mathlib.Core.List.{List, [], ◌∷◌}
use native.Mathlib.Omega.{arith}
use lib.ListN.{length, get_or, take, drop, replicate}
use lib.Seq.{take-append_seam, get_or-drop}
use Rattle.runs.specs.Run.{digit_sum, levels}
use Rattle.runs.proofs.Here.{gives_true, levels_le}
use Rattle.packing.specs.Write.{greatest, digits_up_to, digits_of, code, on_from, written, packed}
use Rattle.packing.proofs.Digits.{written_short}
use Rattle.packing.proofs.ReadBack.{written_levels}
use Rattle.packing.proofs.Shortest.{shortest, greatest_le, written_le}
use Rattle.bare.specs.Read.{ReadPromise}
use Rattle.bare.specs.Write.{write_answer, write_out, WritePromise}
use Rattle.bare.specs.Reasons.{WriteReason}
use Rattle.bare.specs.declared.WriteRefusal.{WriteRefusal}
use Rattle.bare.proofs.Reasons.{read_gives, write_tells, write_answered}
use Rattle.bare.proofs.Write.{wrote}
use Rattle.rules.specs.Fields.{length_at}
use Rattle.base_format.specs.Parts.{data_at, greatest_in, levels_in}
use Rattle.base_format.specs.Accepted.{Accepted}
use Rattle.base_format.specs.Good.{GoodCut}
use Rattle.base_format.proofs.GoodCuts.{good_accepted}
use Rattle.sections.specs.Verdict.{default_cut}
use Rattle.sections.specs.declared.Cut.{Cut}
use Rattle.cuts.proofs.Places.{greatest_small, all_bins, few_bins}
use Rattle.bare.specs.declared.Wrote.{Wrote}
use Rattle.std.specs.Prelude.{Ok, Result}

-- run write wrote n octets for the levels s
module _ {s d out : List ℕ} {v n : ℕ} (w : WritePromise s d (Ok (record { v = v; len = n })) out) where
  n_is : n ≡ length (packed s)
  n_is = let same : ◌≡◌ {A = Wrote} (record { v = v; len = n }) (record { v = greatest s; len = length (packed s) }) = cc (write_tells s d out v n w) in λ i. (same i).len

  -- octets that decode to just these levels, under the V that it answered or under any other, are at least n
  pub no_shorter : (u : ℕ) (t : List ℕ) → ((i : ℕ) → get_or t i 0 < 256) → levels u t ≡ s → n ≤ length t
  no_shorter u t small e = omega (arith, n_is, ap (λ (l : List ℕ). length (packed l)) e, shortest u t small)

  -- and so are octets that run read reads back as these levels
  pub none_read_shorter : (u : ℕ) (t : List ℕ) → ((i : ℕ) → get_or t i 0 < 256) → {d' out' : List ℕ} → ReadPromise u (length s) t d' (Ok tt) out' → take (length s) out' ≡ s → n ≤ length t
  none_read_shorter u t small {d'} {out'} p back =
      let count = (gives_true u (length s) t (read_gives u (length s) t d' out' p)).1 in
      no_shorter u t small (sym (take-append_seam (levels u t) (drop (length (levels u t)) d')) ∙ (λ i. take (count i) (sym p.held i)) ∙ back)

  -- n octets there are: those that it wrote, which decode to these levels under the V that it answered
  pub reached : (length (take n out) ≡ n) × ((i : ℕ) → get_or (take n out) i 0 < 256) × (levels v (take n out) ≡ s)
  reached =
      let k = wrote w in (
        ap length k.octets ∙ sym k.long,
        (λ i. rw k.octets (omega (arith, written_le v k.low s k.top i))),
        ap (levels v) k.octets ∙ written_levels v k.low s k.top,
      )

  -- and n is at most the number of levels
  pub at_most_levels : n ≤ length s
  at_most_levels = omega (arith, n_is, written_short (greatest s) s)

-- ── of a file ──

-- what stands in front of octets is octets
take_small : (n : ℕ) (l : List ℕ) → ((i : ℕ) → get_or l i 0 < 256) → (i : ℕ) → get_or (take n l) i 0 < 256
take_small zero l small i = omega arith
take_small (suc n) [] small i = small i
take_small (suc n) (x ∷ l) small zero = small 0
take_small (suc n) (x ∷ l) small (suc i) = take_small n l (λ j. small (suc j)) i

-- a cut of an accepted file
module _ (s : List ℕ) (small : (i : ℕ) → get_or s i 0 < 256) (cs : List Cut) (a : Accepted s cs) (i : ℕ) (lt : i < length cs) where
  abbrev cut : Cut
  cut = get_or cs i default_cut

  abbrev its_data : List ℕ
  its_data = data_at s cut.section7

  good : GoodCut s cut
  good = good_accepted s cs a i lt

  data_small : (k : ℕ) → get_or its_data k 0 < 256
  unfolding data_at
  data_small = take_small (length_at s cut.section7 - 5) (drop (cut.section7 + 5) s) (λ k. rw (get_or-drop (cut.section7 + 5) s k 0) (small (cut.section7 + 5 + k)))

  no_more : length (packed (levels_in s cut)) ≤ length its_data
  unfolding levels_in
  no_more = shortest (greatest_in s cut) its_data data_small

  low : greatest (levels_in s cut) ≤ 252
  unfolding levels_in
  low = omega (arith, greatest_le (greatest_in s cut) (levels (greatest_in s cut) its_data) (levels_le (greatest_in s cut) its_data), greatest_small s cut good.any)

  never : {room : ℕ} → length its_data ≤ room → (q : WriteRefusal) → WriteReason room (levels_in s cut) q → ⊥
  never fits q (WriteReason.by_count h) = omega (arith, all_bins s cut good, few_bins s cut good)
  never fits q (WriteReason.by_level h) = omega (arith, low)
  never fits q (WriteReason.by_room _ _ h) = omega (arith, no_more)

  -- its levels, handed to run write with as much room as its data takes, are written, and in no more octets than that data
  pub repacked : {d out : List ℕ} {r : Result Wrote WriteRefusal} → length its_data ≤ length d → WritePromise (levels_in s cut) d r out → (v : ℕ) × (n : ℕ) × (r ≡ Ok (record { v = v; len = n })) × (n ≤ length its_data)
  repacked {d} {out} {r} fits w = (greatest (levels_in s cut), length (packed (levels_in s cut)), (write_answered (levels_in s cut) d out r w).1 (never fits), no_more)

-- ── small samples ──

-- as many octets there may be: two 7s are written `7 9`, and under V = 7 `7 7` gives them too
pub two_sevens : (r : Result Wrote WriteRefusal) (out : List ℕ) → WritePromise (7 ∷ 7 ∷ []) (0 ∷ 0 ∷ []) r out → (r ≡ Ok (record { v = 7; len = 2 })) × (out ≡ 7 ∷ 9 ∷ []) × (levels 7 (7 ∷ 7 ∷ []) ≡ 7 ∷ 7 ∷ [])
unfolding write_answer greatest written on_from code digits_of digits_up_to levels digit_sum
two_sevens r out p = (p.answered, p.held ∙ ap (λ (x : Result Wrote WriteRefusal). write_out x (packed (7 ∷ 7 ∷ [])) (0 ∷ 0 ∷ [])) p.answered, refl)

-- ten 7s are written `7 17`
pub ten_sevens : (r : Result Wrote WriteRefusal) (out : List ℕ) → WritePromise (replicate 10 7) (0 ∷ 0 ∷ 5 ∷ []) r out → (r ≡ Ok (record { v = 7; len = 2 })) × (out ≡ 7 ∷ 17 ∷ 5 ∷ [])
unfolding write_answer greatest written on_from code digits_of digits_up_to
ten_sevens r out p = (p.answered, p.held ∙ ap (λ (x : Result Wrote WriteRefusal). write_out x (packed (replicate 10 7)) (0 ∷ 0 ∷ 5 ∷ [])) p.answered)

-- A zero digit at the end, a run cut in two, a V over the greatest level: each reads back as ten 7s, so that demand 2 allows it ..
pub longer_reads_back : (levels 7 (7 ∷ 17 ∷ 8 ∷ []) ≡ replicate 10 7) × (levels 7 (7 ∷ 7 ∷ 16 ∷ []) ≡ replicate 10 7) × (levels 252 (7 ∷ 253 ∷ 253 ∷ 254 ∷ []) ≡ replicate 10 7)
unfolding levels digit_sum
longer_reads_back = (refl, refl, refl)

-- .. and `no_shorter` alone, whatever else is promised, allows a writer no more than two octets for ten 7s
pub two_at_most : (n : ℕ) → ((u : ℕ) (t : List ℕ) → ((i : ℕ) → get_or t i 0 < 256) → levels u t ≡ replicate 10 7 → n ≤ length t) → n ≤ 2
unfolding levels digit_sum
two_at_most n h = h 7 (7 ∷ 17 ∷ []) small refl
  where
    small : (i : ℕ) → get_or (7 ∷ 17 ∷ []) i 0 < 256
    small zero = omega arith
    small (suc zero) = omega arith
    small (suc (suc i)) = omega arith
