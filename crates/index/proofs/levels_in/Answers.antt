-- `levels_in` meets its contract where all bins are one run: they are so many of its level.
use Prim.Native.Nat.{ℕ, ◌-◌}
use mathlib.Core.Path.{◌≡◌, sym, ap, ◌∙◌}
use mathlib.Core.List.{List, []}
use native.Mathlib.Omega.{arith}
use lib.ListN.{replicate, get_or}
use Rattle.lent.specs.Lent.{front, placed}
use Rattle.lent.proofs.Lent.{placed_front}
use Rattle.index.proofs.Usable.{there, whole_usable, whole_levels}
use Rattle.index.proofs.levels_in.Goals as goal

pub bounds-octets-0 : goal.bounds-octets-0
bounds-octets-0 c = (there c.args.v c.args.nb c.args.octets.now c.args.before c.if-nb-gt0.true (sym c.longer.ensures ∙ c.if-longer.true)).0

pub returns-then-longer : goal.returns-then-longer
returns-then-longer c =
    let one = sym c.longer.ensures ∙ c.if-longer.true in
    let all : c.args.nb - 0 ≡ c.args.nb = omega arith in record {
      value = sym (whole_usable c.args.v c.args.nb c.args.octets.now c.args.before c.if-nb-gt0.true one);
      out_after = c.stamp.ensures
          ∙ ap (λ (n : ℕ). placed c.args.out.now 0 (replicate n (get_or c.args.octets.now 0 0))) all
          ∙ placed_front [] c.args.out.now (replicate c.args.nb (get_or c.args.octets.now 0 0))
          ∙ ap (λ (l : List ℕ). front l c.args.out.now) (whole_levels c.args.v c.args.nb c.args.octets.now c.args.before c.if-nb-gt0.true one);
    }
