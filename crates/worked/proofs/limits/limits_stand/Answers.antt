use Rattle.worked.proofs.Limiting.{limits}
use Rattle.worked.proofs.limits.limits_stand.Goals as goal

pub returns : goal.returns
returns c = limits
