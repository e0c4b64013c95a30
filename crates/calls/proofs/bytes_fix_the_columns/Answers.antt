use Rattle.calls.proofs.GoingLaws.{bytes-fix}
use Rattle.calls.proofs.bytes_fix_the_columns.Goals as goal

pub returns : goal.returns
returns c = bytes-fix
