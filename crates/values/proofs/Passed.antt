-- The readings of bins a up to b are those of the octets from the run on that holds bin a: what they ask there follows.
use Prim.Native.Nat.{ℕ, ◌-◌, ◌≤◌, ◌<◌}
use mathlib.Core.List.{List}
use native.Mathlib.Omega.{arith}
use Rattle.runs.specs.Inner.{Holds}
use Rattle.runs.specs.declared.RunInHand.{RunInHand}
use Rattle.runs.proofs.Passed.{part, passed_opens, passed_given}
use Rattle.values.specs.Published.{level_count}
use Rattle.values.specs.declared.Product.{Product}
use Rattle.values.specs.Inner.{Bins}
use Rattle.values.proofs.Published.{count_le}

-- the greatest level of a product leaves runs a base
pub base_low : (p : Product) (v : ℕ) → v ≤ level_count p → v ≤ 253
base_low p v h = omega (arith, h, count_le p)

pub passed_asks : (p : Product) (v a b : ℕ) (s : List ℕ) (marks values : ℕ) (g : Bins p v a b s marks values) (some : a < b) (hand : RunInHand) (h : Holds v s a hand)
    → Bins p v (a - hand.bins) (b - hand.bins) (part v a b s some g.given hand h) marks values
passed_asks p v a b s marks values g some hand h =
    record {
      low = g.low;
      opened = passed_opens v a b s some g.given hand h;
      near = omega (arith, g.near);
      order = omega (arith, g.order);
      given = passed_given v a b s some g.given hand h;
      room_marks = omega (arith, g.room_marks, h.before, some);
      room_values = omega (arith, g.room_values, h.before, some);
    }
