use Rattle.std.proofs.Common.{◌≡◌, length, sym, refl, ap, arith}
use Rattle.column.specs.Kinds.{number_of}
use Rattle.column.specs.Columns.{seen, values}
use Rattle.node.specs.Nodes.{constant_node}
use Rattle.node.specs.Payloads.{constant_payload}
use Rattle.node.proofs.LeafLaws.{some-value}
use Rattle.emit.proofs.Bytes.{masked-is, leaf-closed, length-put}
use Rattle.emit.proofs.leaves.emit_constant.Goals as goal

pub write_head-requires-clause-room : goal.write_head-requires-clause-room
write_head-requires-clause-room c =
    let v = seen c.args.array.view in
    let x = c.of-extent.ensures in
    let p : c.constant_len.result ≡ length (constant_payload v) =
    c.constant_len.ensures.meant v (ap number_of (sym x.kind)) (sym x.rows) (sym x.has_blank) (some-value (values v) c.requires.one) in
    let l = length-put 16 c.args.out.now c.write_constant.new.out c.write_constant.auto.out in
    let r = c.requires.room in
    omega arith

pub returns : goal.returns
returns c =
    let v = seen c.args.array.view in
    let x = c.of-extent.ensures in
    let p : c.constant_len.result ≡ length (constant_payload v) =
    c.constant_len.ensures.meant v (ap number_of (sym x.kind)) (sym x.rows) (sym x.has_blank) (some-value (values v) c.requires.one) in
    let w = c.write_head.ensures in
    let r = c.requires.room in
    leaf-closed (constant_node v) c.masked_head-head.result c.constant_len.result c.write_head.result (record { whole = 0; nodes = 0 })
    c.args.out.now c.write_head.new.out c.write_constant.new.out refl
    (masked-is 1 c.args.array.view c.of-extent.result.kind c.of-extent.result.has_blank c.of-extent.result.rows c.masked_head-head.result x.kind x.has_blank x.rows c.masked_head-head.ensures)
    p (omega arith) c.write_constant.ensures refl refl w.whole w.nodes w.bytes
