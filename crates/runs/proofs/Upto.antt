-- A run cut off at the bins that are wanted, and the walk over runs that are so cut off: it stands at the next run as long as bins are wanted.
use Prim.Native.Nat.{ℕ, ◌+◌, ◌-◌, ◌≤◌, ◌<◌, min}
use mathlib.Core.Path.{◌≡◌, refl, sym, ap, ◌∙◌}
use mathlib.Core.Bool.{Bool, true, false, cond}
use mathlib.Core.List.{List}
use native.Mathlib.Omega.{arith}
use lib.ListN.{length, get_or, length-drop}
use lib.Dec.{leb, eqb}
use borrow.Author.Tests.{le-leb, lt-leb, leb-true, leb-false, eq-eqb, ne_eqb, eqb-true, eqb-false}
use Rattle.runs.specs.Run.{levels, run_len}
use Rattle.runs.specs.Inner.{run_next, cut_step, Stands}
use Rattle.octets.proofs.Orders.{by_order}
use Rattle.lent.proofs.Lent.{drop_here}
use Rattle.runs.proofs.Here.{here_fits, here_next, levels_past, run_fits}
use Rattle.runs.specs.declared.Run.{Run}
use Rattle.std.specs.Prelude.{None, Some}

-- ---- what the step tells
pub record CutOff (v : ℕ) (s : List ℕ) (at left level len next : ℕ) : Type 0 where
  pub wanted : 0 < left
  pub inside : at < length s
  pub is : level ≡ get_or s at 0
  pub size : len ≡ min (run_len v s at) left
  pub past : run_len v s at ≤ left → next ≡ run_next v s at

module _ (v left : ℕ) (s : List ℕ) (at : ℕ) where
  abbrev whole : Run
  whole = record { level = get_or s at 0; len = run_len v s at; next = run_next v s at }

  abbrev part : Run
  part = record { level = get_or s at 0; len = left; next = at }

  pub cut_told : (r : Run) → Some r ≡ cut_step v left s at → CutOff v s at left r.level r.len r.next
  unfolding cut_step
  cut_told r e = split (eqb left 0) (leb (length s) at) (leb (run_len v s at) left) refl refl refl e
    where
      split : (a b c : Bool) → eqb left 0 ≡ a → leb (length s) at ≡ b → leb (run_len v s at) left ≡ c
          → Some r ≡ cond a None (cond b None (cond c (Some whole) (Some part))) → CutOff v s at left r.level r.len r.next
      split true b c ea eb ec e = absurd (let w : ◌≡◌ {A = ℕ} 0 1 = cc e in omega arith)
      split false true c ea eb ec e = absurd (let w : ◌≡◌ {A = ℕ} 0 1 = cc e in omega arith)
      split false false true ea eb ec e =
          let fits = leb-true (run_len v s at) left ec in
          let is : r ≡ whole = cc e in
          let size : r.len ≡ run_len v s at = λ i. (is i).len in
          record { wanted = omega (arith, eqb-false left 0 ea); inside = leb-false (length s) at eb; is = λ i. (is i).level; size = omega arith; past = λ _ i. (is i).next }
      split false false false ea eb ec e =
          let over = leb-false (run_len v s at) left ec in
          let is : r ≡ part = cc e in
          let size : r.len ≡ left = λ i. (is i).len in
          record { wanted = omega (arith, eqb-false left 0 ea); inside = leb-false (length s) at eb; is = λ i. (is i).level; size = omega arith; past = λ h. absurd (omega arith) }

  pub cut_ended_lem : None ≡ cut_step v left s at → 0 < left → length s ≤ at
  unfolding cut_step
  cut_ended_lem e some = split (eqb left 0) (leb (length s) at) (leb (run_len v s at) left) refl refl e
    where
      split : (a b c : Bool) → eqb left 0 ≡ a → leb (length s) at ≡ b
          → None ≡ cond a None (cond b None (cond c (Some whole) (Some part))) → length s ≤ at
      split true b c ea eb e = absurd (omega (arith, eqb-true left 0 ea))
      split false true c ea eb e = leb-true (length s) at eb
      split false false true ea eb e = absurd (let w : ◌≡◌ {A = ℕ} 0 1 = cc e in omega arith)
      split false false false ea eb e = absurd (let w : ◌≡◌ {A = ℕ} 0 1 = cc e in omega arith)

-- ---- the walk: as long as bins are wanted reading stands, and past the cut nothing is owed
pub record Upto (v : ℕ) (s : List ℕ) (want at bins : ℕ) : Type 0 where
  pub few : bins ≤ want
  pub within : bins ≤ length (levels v s)
  pub stands : bins < want → Stands v s at bins

-- a run that the step tells: reading stands where it begins and past it, and it has bins
pub record Past (v : ℕ) (s : List ℕ) (want at bins : ℕ) (r : Run) : Type 0 where
  pub cut : CutOff v s at (want - bins) r.level r.len r.next
  pub stands : Stands v s at bins
  pub more : bins < length (levels v s)
  pub some : 0 < r.len
  pub on : Upto v s want r.next (bins + r.len)

module _ (v : ℕ) (s : List ℕ) (want at bins : ℕ) (k : Upto v s want at bins) where
  module _ (x len next : ℕ) (c : CutOff v s at (want - bins) x len next) where
    wanted : bins < want
    wanted = omega (arith, c.wanted)

    pub upto_stands : Stands v s at bins
    upto_stands = k.stands wanted

    -- at an octet there are bins to come
    pub upto_more : bins < length (levels v s)
    upto_more =
        let low : get_or s at 0 ≤ v = leb-true (get_or s at 0) v (rw (drop_here s at c.inside) at upto_stands.opened) in
        omega (arith, run_fits v s at c.inside low, simp length-drop at (ap length upto_stands.rest))

    -- past the run, or at the bins wanted inside it
    pub upto_next : (0 < len) × Upto v s want next (bins + len)
    upto_next =
        let size = c.size in
        let some = c.wanted in (
          omega arith,
          record {
            few = omega arith;
            within = omega (arith, here_fits v s at bins upto_stands upto_more);
            stands = λ short. (here_next v s at bins upto_stands upto_more len next (omega arith) (c.past (omega arith))).1;
          },
        )

  pub upto_told : (r : Run) → Some r ≡ cut_step v (want - bins) s at → Past v s want at bins r
  upto_told r told =
      let c = cut_told v (want - bins) s at r told in
      let next = upto_next _ _ _ c in
      record { cut = c; stands = upto_stands _ _ _ c; more = upto_more _ _ _ c; some = next.0; on = next.1 }

  -- at the end all bins are read, or the octets give fewer
  pub upto_ended : None ≡ cut_step v (want - bins) s at → eqb bins want ≡ leb want (length (levels v s))
  upto_ended e =
      by_order want bins
      (λ all. eq-eqb bins want (omega (arith, k.few)) ∙ sym (le-leb want (length (levels v s)) (omega (arith, k.within))))
      (λ more.
      let stands = k.stands more in
      let out = cut_ended_lem v (want - bins) s at e (omega arith) in
      let none : length (levels v s) ≤ bins = omega (arith, simp length-drop at (ap length (stands.rest ∙ levels_past v s at out))) in
      ne_eqb bins want (λ same. omega arith) ∙ sym (lt-leb want (length (levels v s)) (omega arith)))

  -- where they give as many as are wanted, all are read
  pub upto_all : None ≡ cut_step v (want - bins) s at → want ≤ length (levels v s) → bins ≡ want
  upto_all e enough = eqb-true bins want (upto_ended e ∙ le-leb want (length (levels v s)) enough)
