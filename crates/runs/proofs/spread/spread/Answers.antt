use Rattle.std.proofs.Common.{◌≡◌, ◌^◌, length, sym, ap, ◌∙◌}
use Rattle.packing.specs.Packing.{joined}
use Rattle.packing.proofs.Digits.{length_digits}
use Rattle.column.specs.Columns.{rows_of, word_bits}
use Rattle.runs.proofs.SpreadLaws.{filled-full}
use Rattle.runs.proofs.spread.spread.Goals as goal

pub returns-then-not-has_blank : goal.returns-then-not-has_blank
returns-then-not-has_blank c =
    let n = length c.args.cells.now in
    let bs = word_bits n c.args.words.now in
    let l : length bs ≡ n = length_digits 2 n (joined (2 ^ 64) c.args.words.now) in
    ap (rows_of bs) c.copy_from_slice.ensures.after
    ∙ filled-full bs c.args.cells.now c.args.values.now l (l ∙ sym c.if-values-cells.true) (sym c.has_blank.ensures ∙ c.if-not-has_blank.true)
