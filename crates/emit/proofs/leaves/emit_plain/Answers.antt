use Rattle.std.proofs.Common.{◌≡◌, length, sym, refl, ap, arith}
use Rattle.column.specs.Kinds.{number_of}
use Rattle.column.specs.Columns.{seen}
use Rattle.node.specs.Nodes.{plain_node}
use Rattle.node.specs.Payloads.{plain_payload}
use Rattle.emit.proofs.Bytes.{masked-is, leaf-closed, length-put}
use Rattle.emit.proofs.leaves.emit_plain.Goals as goal

pub write_head-requires-clause-room : goal.write_head-requires-clause-room
write_head-requires-clause-room c =
    let v = seen c.args.array.view in
    let x = c.of-extent.ensures in
    let p : c.plain_len.result ≡ length (plain_payload v) = c.plain_len.ensures.meant v (ap number_of (sym x.kind)) (sym x.rows) (sym x.has_blank) in
    let l = length-put 16 c.args.out.now c.write_plain.new.out c.write_plain.auto.out in
    let r = c.requires in
    omega arith

pub returns : goal.returns
returns c =
    let v = seen c.args.array.view in
    let x = c.of-extent.ensures in
    let p : c.plain_len.result ≡ length (plain_payload v) = c.plain_len.ensures.meant v (ap number_of (sym x.kind)) (sym x.rows) (sym x.has_blank) in
    let w = c.write_head.ensures in
    let r = c.requires in
    leaf-closed (plain_node v) c.masked_head-head.result c.plain_len.result c.write_head.result (record { whole = 0; nodes = 0 })
    c.args.out.now c.write_head.new.out c.write_plain.new.out refl
    (masked-is 0 c.args.array.view c.of-extent.result.kind c.of-extent.result.has_blank c.of-extent.result.rows c.masked_head-head.result x.kind x.has_blank x.rows c.masked_head-head.ensures)
    p (omega arith) c.write_plain.ensures refl refl w.whole w.nodes w.bytes
