use Rattle.std.proofs.Common.{◌≡◌, length, drop, ap, ◌∙◌}
use Rattle.packing.specs.Packing.{packed_len, written}
use Rattle.column.specs.Kinds.{number_of, width}
use Rattle.column.specs.Columns.{rows_of}
use Rattle.node.specs.Payloads.{unmask, words_of}
use Rattle.node.proofs.MaskLaws.{length-unmask, below-unmask}
use Rattle.node.proofs.LeafLaws.{held-from}
use Rattle.node.proofs.leaves.Leaf.read_plain.Goals as goal

pub returns : goal.returns
returns c =
    let k = number_of c.args.self.kind in
    let f = c.args.self.flag in
    let n = length c.args.cells.now in
    let rest = drop (packed_len (width k) n) c.args.self.payload.now in
    let cs = c.read_at_width.new.cells in
    let l : length cs ≡ n = c.read_at_width.auto.cells in
    let r : c.from.result.now ≡ rest = c.from.ensures ∙ ap (λ m. drop m c.args.self.payload.now) (c.packed_len-len.ensures ∙ (λ i. packed_len (c.width.ensures i) (l i))) in
    let w : c.read_mask.new.words ≡ written (words_of n (unmask f n rest)) c.args.words.now =
    c.read_mask.ensures ∙ (λ i. written (words_of (l i) (unmask f (l i) (r i))) c.args.words.now) in
    held-from n cs c.read_mask.new.words (unmask f n rest) c.args.words.now l (length-unmask f n rest) (below-unmask f n rest) c.requires.words w
    ∙ ap (rows_of (unmask f n rest)) c.read_at_width.ensures
