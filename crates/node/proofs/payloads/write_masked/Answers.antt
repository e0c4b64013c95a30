use Rattle.std.proofs.Common.{◌≡◌, ℕ, ◌+◌, ◌≤◌, List, ◌++◌, length, sym, refl, ap, ◌∙◌, arith, length-append}
use Rattle.std.proofs.lemmas.List.{take_rest, length-drop}
use Rattle.packing.specs.Packing.{packed_len}
use Rattle.column.specs.declared.views.View.{View}
use Rattle.column.specs.Kinds.{number_of, width}
use Rattle.column.specs.Columns.{seen}
use Rattle.node.specs.Payloads.{mask, at_width}
use Rattle.node.proofs.WidthLaws.{length-at_width}
use Rattle.node.proofs.WriteLaws.{then-written}
use Rattle.node.proofs.payloads.write_masked.Goals as goal

-- where the cells end, and that the mask has room behind them
ends : (v : View) (cs out : List ℕ) (len : ℕ) → len ≡ packed_len (width (number_of v.kind)) (length cs)
    → length (at_width (number_of v.kind) cs ++ mask (seen v).rows) ≤ length out → (len ≡ length (at_width (number_of v.kind) cs)) × (len + length (mask (seen v).rows) ≤ length out)
ends v cs out len l r =
    let a = length-append (at_width (number_of v.kind) cs) (mask (seen v).rows) in
    let n : len ≡ length (at_width (number_of v.kind) cs) = l ∙ sym (length-at_width (number_of v.kind) cs) in
    (n, omega arith)

pub write_at_width-len-requires : goal.write_at_width-len-requires
write_at_width-len-requires c =
    let n = ends c.args.array.view c.args.cells.now c.args.out.now _ refl c.requires.room in
    record { few = c.requires.few; room = omega (arith, n.1) }

pub slice_bounds-write_mask-count : goal.slice_bounds-write_mask-count
slice_bounds-write_mask-count c =
    let n = ends c.args.array.view c.args.cells.now c.args.out.now _ c.write_at_width-len.ensures.len c.requires.room in
    let k = c.write_at_width-len.auto.out in
    omega (arith, n.1)

pub slice_bounds-write_mask-start : goal.slice_bounds-write_mask-start
slice_bounds-write_mask-start c =
    let n = ends c.args.array.view c.args.cells.now c.args.out.now _ c.write_at_width-len.ensures.len c.requires.room in
    let k = c.write_at_width-len.auto.out in
    let h : c.write_at_width-len.result ≤ length c.write_at_width-len.new.out = omega (arith, n.1) in
    h

pub write_mask-requires : goal.write_mask-requires
write_mask-requires c =
    let len = c.write_at_width-len.result in
    let out = c.write_at_width-len.new.out in
    let n = ends c.args.array.view c.args.cells.now c.args.out.now len c.write_at_width-len.ensures.len c.requires.room in
    let k = c.write_at_width-len.auto.out in
    let r = ap length (take_rest out len) ∙ length-drop len out in
    record { room = omega (arith, n.1, r) }

pub returns : goal.returns
returns c =
    let v = c.args.array.view in
    let cs = c.args.cells.now in
    let n = ends v cs c.args.out.now _ c.write_at_width-len.ensures.len c.requires.room in
    then-written (at_width (number_of v.kind) cs) (mask (seen v).rows) c.args.out.now c.write_at_width-len.new.out c.write_mask.new.out c.write_at_width-len.result n.0 c.write_at_width-len.ensures.bytes c.write_mask.ensures
