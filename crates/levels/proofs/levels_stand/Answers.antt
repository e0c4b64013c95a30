use Rattle.levels.proofs.StandingLaws.{levels-stand}
use Rattle.levels.proofs.levels_stand.Goals as goal

pub returns : goal.returns
returns c = levels-stand
