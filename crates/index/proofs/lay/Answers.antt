-- `lay` meets its contract: a turn calls `next_ray` and stores one record; what the records are is in proofs/Rows.antt.
use Rattle.std.proofs.Common.{ℕ, List, ◌++◌, ◌≡◌, ap, ◌∙◌, arith, take, drop, set}
use Rattle.std.proofs.Math.Seq.{length-take-le}
use Rattle.index.specs.declared.RayRecord.{RayRecord}
use Rattle.index.proofs.Rows.{laid, after_none, after_next, laid_none, laid_next, laid_front}
use Rattle.index.proofs.lay.Goals as goal

pub loop-slot-init : goal.loop-slot-init
loop-slot-init c = record {
  come = after_none c.args.octets.now c.args.start c.args.n c.requires.0;
  row_laid = laid_none c.args.octets.now c.args.start (take c.args.n c.args.row.now);
}

pub loop-slot-preserved : goal.loop-slot-preserved
loop-slot-preserved c =
    let s = c.args.octets.now in
    let p = c.args.start in
    let n = c.args.n in
    let i = c.loop-slot.slot-index in
    let q = c.loop-slot.p in
    let r = c.next_ray-p.result in
    let t = c.loop-slot.invariant.come in
    let on = c.next_ray-p.ensures in
    let size = length-take-le n c.args.row.now c.requires.1 in
    record {
      come = after_next s p n i q t (omega (arith, size)) r on;
      row_laid =
          ap (λ (l : List RayRecord). set l i r.rec) c.loop-slot.invariant.row_laid
          ∙ laid_next s p (take n c.args.row.now) n i q r t on (omega arith);
    }

pub returns : goal.returns
returns c =
    let n = c.args.n in
    let row = c.args.row.now in
    let size = length-take-le n row c.requires.1 in
    let all : c.loop-slot.slot-index ≡ n = omega (arith, size, c.loop-slot.invariant.come.le) in
    ap (λ (l : List RayRecord). l ++ drop n row) c.loop-slot.invariant.row_laid
    ∙ ap (λ (i : ℕ). laid c.args.octets.now c.args.start (take n row) i ++ drop n row) all
    ∙ laid_front c.args.octets.now c.args.start row n c.requires.1
