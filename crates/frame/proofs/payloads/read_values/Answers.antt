use Rattle.std.proofs.Common.{◌≡◌, min, length, take, drop, sym, ap, ◌∙◌}
use Rattle.packing.specs.Packing.{packed_len, unpacked, written}
use Rattle.packing.proofs.Packed.{unpacked-take}
use Rattle.column.specs.Kinds.{number_of, width}
use Rattle.column.specs.Columns.{rows_of}
use Rattle.node.specs.Payloads.{unmask, words_of}
use Rattle.node.proofs.MaskLaws.{length-unmask, below-unmask}
use Rattle.node.proofs.LeafLaws.{held-from}
use Rattle.frame.specs.Frame.{added_to}
use Rattle.frame.proofs.payloads.read_values.Goals as goal

pub returns : goal.returns
returns c =
    let s = c.args.stored in
    let k = number_of s.kind in
    let n = s.rows in
    let b = min s.cell_bits 64 in
    let body = drop (packed_len (width k) 1) s.payload.now in
    let bits = unmask s.flag n (drop (packed_len b n) body) in
    let old = c.args.words.now in
    let eb : c.from-bits.result ≡ b = c.from-bits.ensures ∙ c.min.ensures in
    let ebody : c.from-body.result.now ≡ body =
    c.from-body.ensures ∙ ap (λ m. drop m s.payload.now) (c.packed_len.ensures ∙ ap (λ w. packed_len w 1) c.width.ensures) in
    let emask : c.from.result.now ≡ drop (packed_len b n) body =
    c.from.ensures ∙ (λ i. drop ((c.packed_len-len.ensures ∙ ap (λ x. packed_len x n) eb) i) (ebody i)) in
    let ews : c.read_mask.new.words ≡ written (words_of n bits) old =
    c.read_mask.ensures ∙ ap (λ bs. written (words_of n (unmask s.flag n bs)) old) emask in
    let ecs : c.add_to_each.new.cells ≡ added_to c.args.least (unpacked b n (take (packed_len b n) body)) =
    c.add_to_each.ensures ∙ ap (added_to c.args.least) (c.unpack.ensures.value ∙ (λ i. unpacked (eb i) (c.requires.cells i) (ebody i)) ∙ sym (unpacked-take b n body)) in
    let l : length c.add_to_each.new.cells ≡ n = c.add_to_each.auto.cells ∙ c.unpack.auto.cells ∙ c.requires.cells in
    ap (λ rs. record { kind = k; rows = rs })
    (held-from n c.add_to_each.new.cells c.read_mask.new.words bits old l (length-unmask s.flag n _) (below-unmask s.flag n _) c.requires.words ews
    ∙ ap (rows_of bits) ecs)
