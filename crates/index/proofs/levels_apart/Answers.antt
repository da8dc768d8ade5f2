-- `levels_apart` meets its contract: by the run at the front, and whether the bins reach far enough; the row of its own holds them at its front.
use Prim.Native.Nat.{ℕ, ◌+◌, ◌-◌, ◌≤◌}
use mathlib.Core.Path.{◌≡◌, refl, sym, ap, ◌∙◌}
use mathlib.Core.List.{List}
use native.Mathlib.Omega.{arith}
use lib.ListN.{length, take, drop}
use lib.Seq.{take_at}
use borrow.Author.Tests.{leb-true}
use Rattle.runs.specs.Run.{levels}
use Rattle.lent.specs.Lent.{front, between}
use Rattle.lent.proofs.Lent.{length_between}
use Rattle.index.proofs.Usable.{longer_opens, longer_usable, shorter_usable}
use Rattle.index.proofs.levels_apart.Goals as goal

-- the bins that a row has at its front
brought : (L row d : List ℕ) (a n : ℕ) → a + n ≤ length L → row ≡ front (between a (a + n) L) d → take n row ≡ take n (drop a L)
brought L row d a n far e =
    let span : a + n - a ≡ n = omega arith in
    let size : length (between a (a + n) L) ≡ n = length_between L a (a + n) far ∙ span in
    ap (take n) e ∙ take_at (between a (a + n) L) (drop (length (between a (a + n) L)) d) n size ∙ ap (λ (k : ℕ). take k (drop a L)) span

pub returns-then-not-longer : goal.returns-then-not-longer
returns-then-not-longer c = record { value = sym (shorter_usable c.args.v c.args.nb c.args.octets.now c.args.before (sym c.longer.ensures ∙ c.if-not-longer.true)); out_after = refl }

pub levels_upto-requires : goal.levels_upto-requires
levels_upto-requires c = record { v_bound = (omega arith, omega arith, longer_opens c.args.v c.args.nb c.args.octets.now c.args.before (sym c.longer.ensures ∙ c.if-not-longer.false)); a_le_b = (omega arith, omega arith) }

pub returns-then-levels_upto : goal.returns-then-levels_upto
returns-then-levels_upto c =
    let first = sym c.longer.ensures ∙ c.if-not-longer.false in
    let far = leb-true (c.args.before + c.args.nb) (length (levels c.args.v c.args.octets.now)) (sym c.levels_upto.ensures.value ∙ c.if-levels_upto.true) in record { value = sym (longer_usable c.args.v c.args.nb c.args.octets.now c.args.before first ∙ sym c.levels_upto.ensures.value ∙ c.if-levels_upto.true); out_after = c.carry.ensures ∙ ap (λ (l : List ℕ). front l c.args.out.now) (brought (levels c.args.v c.args.octets.now) _ _ c.args.before c.args.nb far (c.levels_upto.ensures.out_after c.if-levels_upto.true)) }

pub returns : goal.returns
returns c = record { value = sym (longer_usable c.args.v c.args.nb c.args.octets.now c.args.before (sym c.longer.ensures ∙ c.if-not-longer.false) ∙ sym c.levels_upto.ensures.value ∙ c.if-levels_upto.false); out_after = refl }
