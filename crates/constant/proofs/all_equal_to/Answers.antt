use Rattle.std.proofs.Common.{rules}
use Rattle.std.proofs.iter.runs.Made.{chains}
use Rattle.column.specs.Columns.{offer_seen}
use Rattle.constant.proofs.Valued.{all_alike}
use Rattle.constant.proofs.all_equal_to.Goals as goal

pub returns : goal.returns
returns c = all_alike (offer_seen c.args.view) c.args.value c.all.result (λ h k l. search (rules, chains)) (λ h. search (rules, chains))
