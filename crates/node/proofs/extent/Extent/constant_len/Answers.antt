use Rattle.std.proofs.Common.{◌∙◌}
use Rattle.column.specs.Kinds.{number_of}
use Rattle.node.proofs.LeafLaws.{constant-len-by}
use Rattle.node.proofs.extent.Extent.constant_len.Goals as goal

pub returns-clause-meant : goal.returns-clause-meant
returns-clause-meant c =
    let e = c.args.self in
    λ col k n q h. c.masked_len.ensures ∙ constant-len-by (number_of e.kind) e.rows e.has_blank col k n q h
