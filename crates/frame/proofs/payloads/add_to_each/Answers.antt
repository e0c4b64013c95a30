use Rattle.frame.proofs.Distances.{added_more, added-all}
use Rattle.frame.proofs.payloads.add_to_each.Goals as goal

pub loop-c-preserved : goal.loop-c-preserved
loop-c-preserved c = added_more c.args.least c.args.cells.now c.loop-c.cells c.loop-c.c-index c.loop-c-test.true c.loop-c.auto.cells c.loop-c.invariant

pub returns : goal.returns
returns c = added-all c.args.least c.args.cells.now c.loop-c.cells c.loop-c.c-index c.loop-c-test.false c.loop-c.invariant
