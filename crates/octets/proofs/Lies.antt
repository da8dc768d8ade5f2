-- Octets that lie at a place of a list: what is read there is read from them alone.
use Prim.Native.Nat.{ℕ, zero, suc, ◌+◌, ◌-◌, ◌≤◌, ◌<◌}
use mathlib.Core.Path.{◌≡◌, refl, sym, ◌∙◌, ap}
use mathlib.Core.List.{List, ◌++◌}
use native.Mathlib.Omega.{arith}
use lib.ListN.{length, get_or, take, drop, length-drop, get_or-append}
use lib.Seq.{get_or-drop, drop-drop, take_at, drop-append-le, drop-append_seam}
use Rattle.octets.specs.Octets.{be}

pub record Lies (s : List ℕ) (at : ℕ) (o : List ℕ) : Type 0 where
  pub after : List ℕ
  pub from : drop at s ≡ o ++ after

module _ (s : List ℕ) (at : ℕ) (o : List ℕ) (h : Lies s at o) where
  pub octet_same : (i : ℕ) → i < length o → get_or s (at + i) 0 ≡ get_or o i 0
  octet_same i lt = sym (get_or-drop at s i 0) ∙ ap (λ (l : List ℕ). get_or l i 0) h.from ∙ get_or-append o h.after 0 i lt

  pub be_same : (k w : ℕ) → k + w ≤ length o → be s (at + k) w ≡ be o k w
  unfolding be
  be_same k zero le = refl
  be_same k (suc w) le =
      let e : at + k + w ≡ at + (k + w) = omega arith in
      let p : get_or s (at + k + w) 0 ≡ get_or o (k + w) 0 = ap (λ (n : ℕ). get_or s n 0) e ∙ octet_same (k + w) (omega arith) in
      rw (be_same k w (omega arith), p)

  -- what comes past them
  pub past_is : drop (at + length o) s ≡ h.after
  past_is = sym (drop-drop (length o) at s) ∙ ap (drop (length o)) h.from ∙ drop-append_seam o h.after

  -- a part of them: those past the first k
  pub part_same : (k : ℕ) → k ≤ length o → take (length o - k) (drop (at + k) s) ≡ drop k o
  part_same k le =
      ap (take (length o - k)) (sym (drop-drop k at s) ∙ ap (drop k) h.from ∙ drop-append-le k o h.after le)
      ∙ take_at (drop k o) h.after (length o - k) (length-drop k o)
