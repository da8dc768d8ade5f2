-- Nr and Nb are those of the cut.
use Rattle.calls.proofs.judge_bin.Goals as goal

pub returns : goal.returns
returns c = rw (← c.rays_in.ensures, ← c.bins_in.ensures) c.judge.ensures
