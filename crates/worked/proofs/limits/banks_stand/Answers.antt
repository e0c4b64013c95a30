use Rattle.worked.proofs.Limiting.{banks}
use Rattle.worked.proofs.limits.banks_stand.Goals as goal

pub returns : goal.returns
returns c = banks
