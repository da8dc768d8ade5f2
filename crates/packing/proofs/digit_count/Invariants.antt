use Prim.Native.Nat.{◌+◌}
use mathlib.Core.Path.{◌≡◌}
use lib.ListN.{length}
use Rattle.packing.specs.Write.{digits_of}
use Rattle.packing.proofs.digit_count.Given as goal

abbrev pub invariant-loop-m : goal.invariant-loop-m
invariant-loop-m l = l.n + length (digits_of l.base l.m) ≡ length (digits_of l.base l.number)

abbrev pub decreases-loop-m : goal.decreases-loop-m
decreases-loop-m l = l.m
