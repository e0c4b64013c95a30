use Rattle.std.proofs.Common.{◌≡◌, ℕ, ◌^◌, List, length, take, sym, ap, ◌∙◌, subst}
use Rattle.packing.specs.Packing.{packed_len, unpacked, Below}
use Rattle.packing.proofs.Packed.{below-unpacked, unpacked-take}
use Rattle.column.specs.Kinds.{number_of, width}
use Rattle.node.specs.Payloads.{widen}
use Rattle.node.proofs.WidthLaws.{stay_all}
use Rattle.node.proofs.leaves.read_at_width.Goals as goal

-- bytes past the cells do not matter
unpacked-at : (b w n : ℕ) (bs cs : List ℕ) → b ≡ w → cs ≡ unpacked b n bs → cs ≡ unpacked w n (take (packed_len w n) bs)
unpacked-at b w n bs cs e c = c ∙ ap (λ x. unpacked x n bs) e ∙ sym (unpacked-take w n bs)

pub extend_signs-requires : goal.extend_signs-requires
extend_signs-requires c =
    let w = width (number_of c.args.kind) in
    let n = length c.args.cells.now in
    let bs = c.args.bytes.now in
    record {
      signed = sym c.if-is_signed.ensures;
      narrow = subst (Below (2 ^ w)) (sym (c.unpack.ensures.value ∙ ap (λ x. unpacked x n bs) c.width.ensures)) (below-unpacked w n bs);
    }

pub returns-then-is_signed : goal.returns-then-is_signed
returns-then-is_signed c =
    let k = number_of c.args.kind in
    c.extend_signs.ensures
    ∙ ap (widen k) (unpacked-at c.width.result (width k) (length c.args.cells.now) c.args.bytes.now c.unpack.new.cells c.width.ensures c.unpack.ensures.value)

pub returns-else-is_signed : goal.returns-else-is_signed
returns-else-is_signed c =
    let k = number_of c.args.kind in
    unpacked-at c.width.result (width k) (length c.args.cells.now) c.args.bytes.now c.unpack.new.cells c.width.ensures c.unpack.ensures.value
    ∙ sym (stay_all k _ (sym c.if-is_signed.ensures))
