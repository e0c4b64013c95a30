use Rattle.worked.proofs.Keeping.{schemes-keep}
use Rattle.worked.proofs.schemes.schemes_keep.Goals as goal

pub returns : goal.returns
returns c = schemes-keep
