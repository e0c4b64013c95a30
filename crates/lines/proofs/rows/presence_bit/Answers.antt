use Rattle.lines.proofs.Gathering.{bit-placed}
use Rattle.lines.proofs.rows.presence_bit.Goals as goal

pub returns : goal.returns
returns c = bit-placed c.args.row c.args.at c.from.result c.is_some.result c.from.ensures c.is_some.ensures
