use Rattle.std.proofs.Common.{rules}
use Rattle.std.proofs.iter.runs.Made.{chains}
use Rattle.column.specs.Columns.{offer_seen}
use Rattle.constant.proofs.Valued.{first_given}
use Rattle.constant.proofs.first_value.Goals as goal

pub returns : goal.returns
returns c = first_given (offer_seen c.args.view) c.find_map.result (λ h k l. search (rules, chains)) (λ v h. search (rules, chains))
