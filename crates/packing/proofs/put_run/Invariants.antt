use Prim.Native.Nat.{◌+◌, ◌-◌, ◌≤◌}
use mathlib.Core.Path.{◌≡◌}
use lib.ListN.{length, take, drop}
use Rattle.packing.specs.Write.{code, digits_of}
use Rattle.lent.specs.Lent.{placed}
use Rattle.packing.proofs.Digits.{octets_of}
use Rattle.packing.proofs.put_run.Given as goal

abbrev pub invariant-loop-m : goal.invariant-loop-m
invariant-loop-m l = (l.at ≤ l.j) × (l.j ≤ l.at + length (code l.v l.x l.k)) × (l.out ≡ placed l.initial.out l.at (take (l.j - l.at) (code l.v l.x l.k))) × (drop (l.j - l.at) (code l.v l.x l.k) ≡ octets_of l.v (digits_of (255 - l.v) l.m))

abbrev pub decreases-loop-m : goal.decreases-loop-m
decreases-loop-m l = l.m
