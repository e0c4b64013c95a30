use Rattle.std.proofs.Common.{sym, refl, ◌∙◌}
use Rattle.packing.proofs.Written.{written_at-none}
use Rattle.column.specs.Columns.{seen}
use Rattle.column.proofs.ViewLaws.{view-rows}
use Rattle.node.specs.Nodes.{blank_node}
use Rattle.emit.proofs.Bytes.{closed}
use Rattle.emit.proofs.leaves.emit_blank.Goals as goal

pub returns : goal.returns
returns c =
    let w = c.write_head.ensures in
    let k = sym c.from.ensures in
    let n = view-rows c.args.view ∙ sym c.rows.ensures in
    closed (blank_node (seen c.args.view)) (record { form = 2; kind = c.from.result; cell_bits = 0; flag = 0; rows = c.rows.result }) 0
    c.write_head.result (record { whole = 0; nodes = 0 }) c.args.out.now c.args.out.now c.write_head.new.out
    (λ j. record { form = 2; kind = k j; cell_bits = 0; flag = 0; rows = n j })
    refl c.requires.room (sym (written_at-none 16 c.args.out.now)) refl refl w.whole w.nodes w.bytes
