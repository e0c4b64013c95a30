use Rattle.std.proofs.Common.{◌≡◌, ℕ, ◌+◌, ◌≤◌, List, length, sym, ap, ◌∙◌, arith, length-append}
use Rattle.std.proofs.lemmas.List.{take_rest, length-drop}
use Rattle.packing.specs.Packing.{packed, packed_len, written}
use Rattle.packing.proofs.Below.{low_bits-below}
use Rattle.packing.proofs.Packed.{length-packed}
use Rattle.column.specs.Columns.{Row, seen}
use Rattle.node.specs.Payloads.{mask}
use Rattle.node.proofs.WriteLaws.{then-written}
use Rattle.frame.specs.Frame.{body_by}
use Rattle.frame.proofs.payloads.write_body.Goals as goal

-- where the distances end, and that the mask has room behind them
ends : (b : ℕ) (ds out : List ℕ) (rs : List Row) → length (body_by b ds rs) ≤ length out → packed_len b (length ds) + length (mask rs) ≤ length out
ends b ds out rs r =
    let a = length-append (packed b ds) (mask rs) in
    let l = length-packed b ds in
    omega arith

pub pack-requires : goal.pack-requires
pack-requires c =
    let n = ends c.args.reference.bits c.args.distances.now c.args.out.now (seen c.args.array.view).rows c.requires.room in
    record { wide = c.args.reference.few; room = omega (arith, n) }

pub slice_bounds-write_mask-count : goal.slice_bounds-write_mask-count
slice_bounds-write_mask-count c =
    let n = ends c.args.reference.bits c.args.distances.now c.args.out.now (seen c.args.array.view).rows c.requires.room in
    let l = c.packed_len-len.ensures in
    let k = c.pack.auto.out in
    omega (arith, n)

pub slice_bounds-write_mask-start : goal.slice_bounds-write_mask-start
slice_bounds-write_mask-start c =
    let n = ends c.args.reference.bits c.args.distances.now c.args.out.now (seen c.args.array.view).rows c.requires.room in
    let l = c.packed_len-len.ensures in
    let k = c.pack.auto.out in
    let h : c.packed_len-len.result ≤ length c.pack.new.out = omega (arith, n) in
    h

pub write_mask-requires : goal.write_mask-requires
write_mask-requires c =
    let n = ends c.args.reference.bits c.args.distances.now c.args.out.now (seen c.args.array.view).rows c.requires.room in
    let l = c.packed_len-len.ensures in
    let k = c.pack.auto.out in
    let r = ap length (take_rest c.pack.new.out c.packed_len-len.result) ∙ length-drop c.packed_len-len.result c.pack.new.out in
    record { room = omega (arith, n, r) }

pub returns : goal.returns
returns c =
    let b = c.args.reference.bits in
    let ds = c.args.distances.now in
    let m : c.pack.new.out ≡ written (packed b ds) c.args.out.now =
    c.pack.ensures ∙ ap (λ xs. written (packed b xs) c.args.out.now) (low_bits-below b ds c.requires.narrow) in
    then-written (packed b ds) (mask (seen c.args.array.view).rows) c.args.out.now c.pack.new.out c.write_mask.new.out c.packed_len-len.result
    (c.packed_len-len.ensures ∙ sym (length-packed b ds)) m c.write_mask.ensures
