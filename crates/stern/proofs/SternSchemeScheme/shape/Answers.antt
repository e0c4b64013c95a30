use Rattle.std.proofs.Common.{sym, ap, ◌∙◌}
use Rattle.column.specs.Columns.{seen}
use Rattle.column.specs.Kinds.{number_of, width}
use Rattle.stern.proofs.Plains.{outline-is}
use Rattle.stern.proofs.SternSchemeScheme.shape.Goals as goal

pub returns : goal.returns
returns c =
    let v = c.args.array.view in
    let x = c.of-extent.ensures in
    let k = ap number_of x.kind in
    outline-is (seen v) c.plain_len.result c.width.result c.from.result c.of-extent.result.has_blank c.in_default.ensures
    (c.plain_len.ensures.meant (seen v) (sym k) (sym x.rows) (sym x.has_blank))
    (c.width.ensures ∙ ap width k) c.from.ensures x.has_blank
