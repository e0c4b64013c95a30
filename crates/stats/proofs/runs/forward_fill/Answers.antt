use Rattle.std.proofs.Common.{◌<◌, ◌≤◌, length, arith}
use Rattle.stats.proofs.Fill.{fill_more, fill-all}
use Rattle.stats.proofs.runs.forward_fill.Goals as goal

pub loop-i-preserved : goal.loop-i-preserved
loop-i-preserved c =
    let lt : c.loop-i.i < length c.loop-i.filled = omega arith in
    fill_more c.args.valid c.loop-i.last c.loop-i.i c.loop-i.filled c.carried-last.result _ lt c.carried-last.ensures c.loop-i.invariant

pub returns : goal.returns
returns c =
    let le : length c.loop-i.filled ≤ c.loop-i.i = omega arith in
    fill-all c.args.valid c.args.prev c.loop-i.last c.loop-i.i c.loop-i.filled c.args.filled.now le c.loop-i.invariant
