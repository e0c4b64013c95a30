use Rattle.std.proofs.Common.{sym, ap}
use Rattle.column.specs.Columns.{seen}
use Rattle.column.specs.Kinds.{number_of}
use Rattle.cascade.proofs.Leaves.{sized_leaf}
use Rattle.cascade.proofs.leaf.Leaf.plain.Goals as goal

pub returns : goal.returns
returns c =
    let e = c.of.ensures in
    sized_leaf 0 c.leaf.ensures (c.plain_len.ensures.meant (seen c.args.array.view) (ap number_of (sym e.kind)) (sym e.rows) (sym e.has_blank))
