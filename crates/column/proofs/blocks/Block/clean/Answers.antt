use Rattle.std.proofs.Common.{length, replicate, sym, ap, ◌∙◌, rules}
use Rattle.column.specs.Columns.{cells}
use Rattle.column.specs.Views.{block_rows}
use Rattle.column.proofs.CleanLaws.{cells-blank, cells-ones}
use Rattle.column.proofs.blocks.Block.clean.Goals as goal

pub returns-in-0 : goal.returns-in-0
returns-in-0 c =
    let xs = c.args.self.now.cells.now in
    c.fill.ensures.after (λ y e. search rules) ∙ ap (λ n. replicate n 0) c.requires.room ∙ sym (cells-blank (length xs) xs) ∙ ap (λ w. cells (block_rows w xs)) (sym c.in-0.is)

pub returns-in-18446744073709551615 : goal.returns-in-18446744073709551615
returns-in-18446744073709551615 c =
    c.copy_from_slice.ensures.after ∙ sym (cells-ones c.args.self.now.word c.args.self.now.cells.now c.in-18446744073709551615.is c.args.self.now.few)
