use Rattle.std.proofs.Common.{◌<◌, length, arith}
use Rattle.stats.proofs.Inplace.{in_start, in-same, in-new, in_end}
use Rattle.stats.proofs.distinct.split_runs.Goals as goal
use Rattle.stats.proofs.distinct.split_runs.Goals.{then-x-cur, else-x-cur}

pub loop-i-init : goal.loop-i-init
loop-i-init c = in_start c.args.values.now c.args.counts.now (omega arith) c.requires.even

pub loop-i-preserved : goal.loop-i-preserved
loop-i-preserved c =
    let w = c.loop-i.invariant in
    let h = c.loop-i-test.true in
    elim c.if-x-cur.branch [
      | then-x-cur u ↦ in-same w h _ _ _ _ _ u.values-is u.counts-is u.j-is u.cur-is u.len-is u.if-x-cur.true
      | else-x-cur u ↦ in-new w h _ _ _ _ _ u.values-is u.counts-is u.j-is u.cur-is u.len-is u.if-x-cur.false
    ]

pub returns : goal.returns
returns c =
    let jn : c.loop-i.j < length c.args.values.now = omega (arith, c.loop-i.auto.i-end (omega arith), c.loop-i.invariant.behind) in
    let e = in_end c.loop-i.invariant c.loop-i-test.false jn in
    record { vals = e.0; lengths = e.1; few = omega arith }
