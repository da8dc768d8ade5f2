-- V and a threshold, narrowed, are answered as they were handed in: one that is out of range is refused, whichever it is.
use Prim.Native.Nat.{ℕ, ◌≤◌, ◌<◌}
use mathlib.Core.Path.{◌≡◌, refl, sym, ◌∙◌, ap}
use mathlib.Core.List.{List}
use mathlib.Core.Bool.{Bool, true, false, cond, not, ◌&&◌}
use native.Mathlib.Omega.{arith}
use borrow.Author.Tests.{ltb-false}
use lib.Dec.{ltb}
use lib.IntN.{ℤ, pos, negsuc}
use lib.ListN.{length, get_or}
use lib.Signed.{mag, lt_z}
use mir.Syntax.{w32}
use mir.Val.{SFits}
use Rattle.runs.specs.Run.{levels}
use Rattle.bare.specs.Read.{read_answer, read_out, check_answer}
use Rattle.stretches.specs.Call.{right_t}
use Rattle.sections.specs.Refusal.{refuse}
use Rattle.sections.specs.Verdict.{Verdict, accepted, refused, default_cut}
use Rattle.sections.specs.declared.Cut.{Cut}
use Rattle.sections.specs.declared.Why.TheVariants.{Argument}
use Rattle.base_format.specs.Verdict.{verdict}
use Rattle.calls.specs.Cuts.{on_cut}
use Rattle.polar.specs.Stretching.{stretches_on, stretch_answer, if_listed, words_after}
use Rattle.c_words.specs.Arguments.{narrow_v, narrow_threshold}
use Rattle.sections.specs.declared.Refusal.{Refusal}
use Rattle.stretches.specs.declared.Listing.{Listing}
use Rattle.std.specs.Prelude.{Err, Result}

-- ── V ──

module _ (v n : ℕ) (s : List ℕ) where
  pub check_narrow : check_answer (narrow_v v) n s ≡ check_answer v n s
  unfolding check_answer
  check_narrow = go (ltb 253 v) refl
    where
      go : (b : Bool) → ltb 253 v ≡ b → check_answer (cond b 254 v) n s ≡ check_answer v n s
      go true e = rw e
      go false e = refl

  pub read_narrow : (room : ℕ) → read_answer (narrow_v v) n room s ≡ read_answer v n room s
  unfolding read_answer
  read_narrow room = go (ltb 253 v) refl
    where
      go : (b : Bool) → ltb 253 v ≡ b → read_answer (cond b 254 v) n room s ≡ read_answer v n room s
      go true e = rw e
      go false e = refl

  -- the levels that it gives, where it gives any
  pub out_narrow : (lent : List ℕ) → read_out (read_answer v n (length lent) s) (levels (narrow_v v) s) lent ≡ read_out (read_answer v n (length lent) s) (levels v s) lent
  unfolding read_answer
  out_narrow lent = go (ltb 253 v) refl
    where
      go : (b : Bool) → ltb 253 v ≡ b → read_out (read_answer v n (length lent) s) (levels (cond b 254 v) s) lent ≡ read_out (read_answer v n (length lent) s) (levels v s) lent
      go true e = rw e
      go false e = refl

-- ── a threshold ──

-- inside its range it has 16 bits
pub threshold_small : (t : ℤ) → lt_z t (negsuc 32766) ≡ false → lt_z (pos 32767) t ≡ false → mag t < 32768
threshold_small (pos n) a b = let h : n ≤ 32767 = ltb-false 32767 n b in omega arith
threshold_small (negsuc n) a b = let h : n ≤ 32766 = ltb-false 32766 n a in omega arith

-- and narrowed it has 32
pub narrow_fits : (t : ℤ) → SFits w32 (narrow_threshold t)
unfolding right_t
narrow_fits t = go (lt_z t (negsuc 32766)) (lt_z (pos 32767) t) refl refl
  where
    go : (a b : Bool) → lt_z t (negsuc 32766) ≡ a → lt_z (pos 32767) t ≡ b → SFits w32 (cond (not a && not b) t (pos 32768))
    go true b e f = record { sfits = omega arith }
    go false true e f = record { sfits = omega arith }
    go false false e f = let h = threshold_small t e f in record { sfits = omega arith }

module _ (s : List ℕ) (i ray bin room : ℕ) (t : ℤ) (wrong : right_t t ≡ false) where
  on_wrong : (c : Cut) → stretches_on s t ray bin room c ≡ Err (refuse Argument 0)
  unfolding stretches_on
  on_wrong c = rw wrong

  -- such a call refuses, by the file or by 10
  pub wrong_answer : (v : Verdict) → on_cut Err (stretches_on s t ray bin room) i v ≡ on_cut Err (λ c. Err (refuse Argument 0)) i v
  unfolding on_cut
  wrong_answer (accepted cs) = ap (λ (x : Result Listing Refusal). cond (ltb i (length cs)) x (Err (refuse Argument 0))) (on_wrong (get_or cs i default_cut))
  wrong_answer (refused r) = refl

unlisted : (i : ℕ) (v : Verdict) (new old : List ℕ) → if_listed (on_cut Err (λ c. Err (refuse Argument 0)) i v) new old ≡ old
unfolding on_cut
unlisted i (accepted cs) new old = go (ltb i (length cs))
  where
    go : (b : Bool) → if_listed (cond b (Err (refuse Argument 0)) (Err (refuse Argument 0))) new old ≡ old
    go true = refl
    go false = refl
unlisted i (refused r) new old = refl

module _ (s : List ℕ) (i : ℕ) (t : ℤ) (ray bin : ℕ) where
  pub stretch_narrow : (room : ℕ) → stretch_answer s i (narrow_threshold t) ray bin room ≡ stretch_answer s i t ray bin room
  unfolding stretch_answer right_t
  stretch_narrow room = go (right_t t) refl
    where
      go : (b : Bool) → right_t t ≡ b → stretch_answer s i (cond b t (pos 32768)) ray bin room ≡ stretch_answer s i t ray bin room
      go true e = refl
      go false e = wrong_answer s i ray bin room (pos 32768) refl (verdict s) ∙ sym (wrong_answer s i ray bin room t e (verdict s))

  -- the words that it leaves, where it lists any
  pub words_narrow : (words : List ℕ) → words_after (stretch_answer s i t ray bin (length words)) s i (narrow_threshold t) ray bin words
      ≡ words_after (stretch_answer s i t ray bin (length words)) s i t ray bin words
  unfolding stretch_answer words_after
  words_narrow words = go (right_t t) refl
    where
      go : (b : Bool) → right_t t ≡ b → words_after (stretch_answer s i t ray bin (length words)) s i (cond b t (pos 32768)) ray bin words
          ≡ words_after (stretch_answer s i t ray bin (length words)) s i t ray bin words
      go true e = refl
      go false e = rw (wrong_answer s i ray bin (length words) t e (verdict s)) (unlisted i (verdict s) _ _ ∙ sym (unlisted i (verdict s) _ _))
