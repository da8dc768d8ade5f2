-- What stands at each place of lent memory: in what is written at its front, and past it.
use Prim.Native.Nat.{ℕ, ◌+◌, ◌-◌, ◌≤◌, ◌<◌}
use mathlib.Core.Path.{◌≡◌, sym, ◌∙◌, ap}
use mathlib.Core.List.{List}
use native.Mathlib.Omega.{arith}
use lib.ListN.{length, get_or, drop, get_or-append}
use lib.Seq.{get_or-append-add, get_or-drop, take_all}
use Rattle.lent.specs.Lent.{front}
use Rattle.lent.specs.Lent.{updated}
use Rattle.lent.proofs.Updated.{updated_past}

pub front_at : (p d : List ℕ) (b : ℕ) → b < length p → get_or (front p d) b 0 ≡ get_or p b 0
front_at p d b h = get_or-append p (drop (length p) d) 0 b h

pub front_past : (p d : List ℕ) (b : ℕ) → length p ≤ b → get_or (front p d) b 0 ≡ get_or d b 0
front_past p d b h =
    let e : length p + (b - length p) ≡ b = omega arith in
    ap (λ (k : ℕ). get_or (front p d) k 0) (sym e)
    ∙ get_or-append-add p (drop (length p) d) (b - length p) 0
    ∙ get_or-drop (length p) d (b - length p) 0
    ∙ ap (λ (k : ℕ). get_or d k 0) e

pub updated_beyond : {A : Type 0} (f : ℕ → A → A) (ls : List ℕ) (bs : List A) (d : A) (b : ℕ) → length ls ≤ b → get_or (updated f ls bs) b d ≡ get_or bs b d
updated_beyond f ls bs d b h = ap (λ (x : List ℕ). get_or (updated f x bs) b d) (sym (take_all b ls h)) ∙ updated_past f ls bs d b
