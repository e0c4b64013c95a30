use Rattle.std.proofs.Common.{◌≤◌, length, sym, ap, ◌∙◌, arith}
use Rattle.packing.specs.Packing.{packed_len, written}
use Rattle.column.specs.Columns.{seen}
use Rattle.column.proofs.ViewLaws.{view-rows, view-words}
use Rattle.node.specs.Payloads.{mask}
use Rattle.node.proofs.MaskLaws.{mask-len-by, mask-of-words}
use Rattle.node.proofs.payloads.write_mask.Goals as goal

pub put_bits-requires : goal.put_bits-requires
put_bits-requires c =
    let v = c.args.array.view in
    let m = mask-len-by _ _ (seen v).rows (view-rows v) (sym c.if-has_blank.ensures) in
    let t : length (mask (seen v).rows) ≤ length c.args.out.now = c.requires.room in
    record { sound = c.args.array.sound; room = omega arith }

pub returns-then-has_blank : goal.returns-then-has_blank
returns-then-has_blank c =
    let v = c.args.array.view in
    c.put_bits.ensures
    ∙ ap (λ m. written m c.args.out.now) (mask-of-words (seen v).rows _ _ (sym c.if-has_blank.ensures) (view-words v c.args.array.clean) (ap (packed_len 1) (sym (view-rows v))))
