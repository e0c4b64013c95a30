use Rattle.std.proofs.Common.{◌≡◌, ◌^◌, length, sym, ap, ◌∙◌}
use Rattle.packing.specs.Packing.{joined}
use Rattle.packing.proofs.Digits.{length_digits}
use Rattle.column.specs.Columns.{cells as cells_of, word_bits}
use Rattle.column.proofs.CleanLaws.{cells-full}
use Rattle.node.specs.Payloads.{words_of}
use Rattle.node.specs.Reading.{held_rows}
use Rattle.reading.proofs.ClearLaws.{presence-held}
use Rattle.reading.proofs.cleared.clear.Goals as goal
use Rattle.reading.proofs.cleared.clear.Goals.{then-has_blank, else-has_blank}

pub returns : goal.returns
returns c =
    let cs = c.args.cells.now in
    let ws = c.args.words.now in
    let full = cells-full (word_bits (length cs) ws) cs (length_digits 2 (length cs) (joined (2 ^ 64) ws)) in
    let cleared : c.if-has_blank.cells ≡ cells_of (held_rows cs ws) =
    elim c.if-has_blank.branch [
      | then-has_blank w ↦ w.cells-is ∙ w.clear_blanks.ensures
      | else-has_blank w ↦ w.cells-is ∙ sym (full (sym c.has_blank.ensures ∙ w.if-has_blank.false))
    ] in
    record {
      cells = cleared;
      words = c.clear_spare.ensures ∙ ap (λ n. words_of n (word_bits n ws)) c.if-has_blank.auto.cells ∙ presence-held cs ws;
    }
