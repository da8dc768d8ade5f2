-- `ray_on` meets its contract: the run in hand then holds the ray's first bin.
use mathlib.Core.Path.{refl, sym}
use native.Mathlib.Omega.{arith}
use Rattle.runs.proofs.Here.{stands_holding, here_inside}
use Rattle.index.proofs.Records.{record_held}
use Rattle.index.proofs.ray_on.Goals as goal

pub overflow_cast-result : goal.overflow_cast-result
overflow_cast-result c =
    let inside = here_inside c.args.p.v c.args.part.now _ _ (stands_holding c.args.p.v c.args.part.now c.args.p.bin c.seek_from-hand.result c.seek_from-hand.ensures).0 (omega (arith, c.seek_from-hand.ensures.before, c.requires.1)) in
    record { fits = omega (arith, inside, c.requires.0.short) }

pub returns : goal.returns
returns c =
    let t = stands_holding c.args.p.v c.args.part.now c.args.p.bin c.seek_from-hand.result c.seek_from-hand.ensures in
    record {
      along = record { low = c.requires.0.low; few = c.requires.0.few; short = c.requires.0.short; ray = c.requires.0.ray; before = omega (arith, c.seek_from-hand.ensures.before); run = c.seek_from-hand.ensures.is };
      same_from = refl;
      same_to = refl;
      same_v = refl;
      same_nb = refl;
      bin = refl;
      rec = sym (record_held c.args.p.v c.args.part.now _ _ c.args.p.bin t.0 c.seek_from-hand.ensures.before (omega (arith, c.seek_from-hand.ensures.inside, t.1)) c.requires.1);
    }
