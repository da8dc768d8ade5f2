-- After i turns i records are laid at the front of the part of the row that is filled, and the walk has n - i rays to come (proofs/Rows.antt).
use Rattle.std.proofs.Common.{◌≡◌, take}
use Rattle.index.proofs.Rows.{After, laid}
use Rattle.index.proofs.lay.Given as goal

abbrev pub invariant-loop-slot : goal.invariant-loop-slot
invariant-loop-slot l = record {
  come : After l.octets l.fn.start l.n l.slot-index l.p;
  row_laid : l.slot-items ≡ laid l.octets l.fn.start (take l.n l.fn.row) l.slot-index;
}
