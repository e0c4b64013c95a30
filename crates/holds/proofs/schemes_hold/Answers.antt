use Rattle.holds.proofs.HoldLaws.{scheme-holds}
use Rattle.holds.proofs.schemes_hold.Goals as goal

pub returns : goal.returns
returns c = scheme-holds
