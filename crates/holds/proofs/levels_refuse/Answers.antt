use Rattle.holds.proofs.RefusalLaws.{levels-refuse}
use Rattle.holds.proofs.levels_refuse.Goals as goal

pub returns : goal.returns
returns c = levels-refuse
