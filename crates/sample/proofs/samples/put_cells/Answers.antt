use Rattle.sample.proofs.Steps.{put_is}
use Rattle.sample.proofs.samples.put_cells.Goals as goal

pub returns : goal.returns
returns c = put_is c.args.at c.args.from c.args.out.now c.args.cells.now _ c.requires.within c.copy_from_slice.ensures.after
