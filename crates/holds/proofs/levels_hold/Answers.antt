use Rattle.holds.proofs.HoldLaws.{levels-hold}
use Rattle.holds.proofs.levels_hold.Goals as goal

pub returns : goal.returns
returns c = levels-hold
