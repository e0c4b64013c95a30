use Rattle.std.proofs.Common.{◌≡◌, length, get_or, drop, replicate, ap, ◌∙◌, rules}
use Rattle.packing.specs.Packing.{packed_len, written}
use Rattle.column.specs.Kinds.{number_of, width}
use Rattle.column.specs.Columns.{rows_of}
use Rattle.node.specs.Payloads.{unmask, words_of, from_width}
use Rattle.node.proofs.MaskLaws.{length-unmask, below-unmask}
use Rattle.node.proofs.LeafLaws.{held-from, constant-held}
use Rattle.node.proofs.leaves.Leaf.read_constant.Goals as goal

pub returns : goal.returns
returns c =
    let k = number_of c.args.self.kind in
    let f = c.args.self.flag in
    let n = length c.args.cells.now in
    let v = get_or (from_width k 1 c.args.self.payload.now) 0 0 in
    let rest = drop (packed_len (width k) 1) c.args.self.payload.now in
    let cs = c.fill.new.self in
    let l : length cs ≡ n = c.fill.auto.self in
    let e : cs ≡ replicate n v = c.fill.ensures.after (λ y q. search rules) ∙ ap (replicate n) c.read_one_at_width.ensures in
    let r : c.from.result.now ≡ rest = c.from.ensures ∙ ap (λ m. drop m c.args.self.payload.now) (c.packed_len-len.ensures ∙ ap (λ b. packed_len b 1) c.width.ensures) in
    let w : c.read_mask.new.words ≡ written (words_of n (unmask f n rest)) c.args.words.now =
    c.read_mask.ensures ∙ (λ i. written (words_of (l i) (unmask f (l i) (r i))) c.args.words.now) in
    held-from n cs c.read_mask.new.words (unmask f n rest) c.args.words.now l (length-unmask f n rest) (below-unmask f n rest) c.requires.words w
    ∙ ap (rows_of (unmask f n rest)) e
    ∙ constant-held n v (unmask f n rest) (length-unmask f n rest)
