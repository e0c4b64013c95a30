use Rattle.holds.proofs.RefusalLaws.{levels-take}
use Rattle.holds.proofs.levels_take.Goals as goal

pub returns : goal.returns
returns c = levels-take
