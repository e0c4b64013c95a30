use Rattle.std.proofs.Common.{sym, ◌∙◌}
use Rattle.column.proofs.ViewLaws.{view-rows}
use Rattle.node.proofs.extent.Extent.of.Goals as goal

pub returns-clause-rows : goal.returns-clause-rows
returns-clause-rows c = c.rows.ensures ∙ sym (view-rows c.args.view)
