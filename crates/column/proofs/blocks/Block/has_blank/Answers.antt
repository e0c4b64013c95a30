use Rattle.std.proofs.Common.{◌-◌, ◌^◌, not, eqb, length, sym, ap, ◌∙◌}
use lib.Bits.{bit_and}
use Rattle.std.proofs.lemmas.Nat.{and_mask}
use Rattle.column.proofs.BlankLaws.{block-blank}
use Rattle.column.proofs.blocks.Block.has_blank.Goals as goal

pub returns : goal.returns
returns c =
    let w = c.args.self.now.word in
    let xs = c.args.self.now.cells.now in
    let mask = c.low_ones-ones.ensures in
    (λ i. not (eqb (bit_and w (mask i)) (mask i)))
    ∙ ap (λ z. not (eqb z (2 ^ length xs - 1))) (and_mask w (length xs))
    ∙ sym (block-blank w xs)
