use mathlib.Core.Path.{◌≡◌}
use Prim.Native.Nat.{◌-◌, ◌<◌}
use lib.ListN.{length}
use Rattle.stretches.specs.Inner.{kind_by_table}
use Rattle.stretches.specs.Call.{stretches_from}
use Rattle.stretches.proofs.Going.{promised, Going, due}
use Rattle.stretches.proofs.list_by.Given as goal

-- the inner loop: what is due is what is promised
abbrev pub invariant-loop-bin : goal.invariant-loop-bin
invariant-loop-bin l = Going (kind_by_table l.kinds) l.v l.nb l.nr l.octets l.at l.ray l.bin l.first l.held × (promised l.nr l.fn.out (stretches_from (kind_by_table l.kinds) l.v l.octets l.nb l.nr l.from) ≡ due (kind_by_table l.kinds) l.v l.nb l.nr l.octets l.from l.cap l.out l.count l.ray l.first)

abbrev pub decreases-loop-bin : goal.decreases-loop-bin
decreases-loop-bin l = l.bin

-- the outer loop: what is in hand ends within the ray, and what is due is what is promised
abbrev pub invariant-loop-run : goal.invariant-loop-run
invariant-loop-run l = Going (kind_by_table l.kinds) l.v l.nb l.nr l.octets l.at l.ray l.bin l.first l.held × (l.bin < l.nb) × (promised l.nr l.initial.out (stretches_from (kind_by_table l.kinds) l.v l.octets l.nb l.nr l.from) ≡ due (kind_by_table l.kinds) l.v l.nb l.nr l.octets l.from l.cap l.out l.count l.ray l.first)

abbrev pub decreases-loop-run : goal.decreases-loop-run
decreases-loop-run l = length l.octets - l.at
