use Rattle.levels.proofs.UniqueLaws.{one-stands}
use Rattle.levels.proofs.one_stands.Goals as goal

pub returns : goal.returns
returns c = one-stands
