use Rattle.scheme.proofs.Ratios.{ratio-laws}
use Rattle.scheme.proofs.estimate.order_of_ratios.Goals as goal

pub returns : goal.returns
returns c = ratio-laws
