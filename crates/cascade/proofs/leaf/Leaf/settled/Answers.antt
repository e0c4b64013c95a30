use Rattle.std.proofs.Common.{◌≡◌, true, sym, ap, ◌∙◌, arith, rules, ap₂}
use Rattle.column.specs.Columns.{seen, values}
use Rattle.column.specs.Kinds.{number_of}
use Rattle.constant.specs.Constants.{constantly}
use Rattle.cascade.specs.Sizes.{lighter_leaf}
use Rattle.cascade.proofs.Leaves.{sized_leaf, settled-constant, some-values}
use Rattle.column.proofs.ViewLaws.{view-rows}
use Rattle.cascade.proofs.leaf.Leaf.settled.Goals as goal

pub returns : goal.returns
returns c =
    let v = c.args.array.view in
    let e = c.of.ensures in
    let k : constantly (values (seen v)) ≡ true = search rules in
    let n = view-rows v in
    let s = sized_leaf 1 c.leaf-2.ensures (c.constant_len.ensures.meant (seen v) (ap number_of (sym e.kind)) (sym e.rows) (sym e.has_blank) (some-values (values (seen v)) k)) in
    settled-constant c.args.is_sample (seen v) c.lighter.result (omega arith) (search rules) k (c.lighter.ensures ∙ ap₂ lighter_leaf s c.plain-plain.ensures)
