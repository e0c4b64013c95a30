use Rattle.levels.proofs.StandingLaws.{scores-stand}
use Rattle.levels.proofs.scores_stand.Goals as goal

pub returns : goal.returns
returns c = scores-stand
