use Rattle.std.proofs.Common.{◌∙◌}
use Rattle.column.specs.Kinds.{number_of}
use Rattle.node.proofs.LeafLaws.{plain-len-by}
use Rattle.node.proofs.extent.Extent.plain_len.Goals as goal

pub returns-clause-meant : goal.returns-clause-meant
returns-clause-meant c =
    let e = c.args.self in
    λ col k n q. c.masked_len.ensures ∙ plain-len-by (number_of e.kind) e.rows e.has_blank col k n q
