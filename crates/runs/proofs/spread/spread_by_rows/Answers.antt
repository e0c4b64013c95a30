use Rattle.std.proofs.Common.{◌≡◌, ◌/◌, ◌%◌, ◌^◌, ◌<◌, length, get_or, sym, ap, ◌∙◌, arith, rules}
use Rattle.std.specs.Option.{unwrap_or}
use Rattle.std.specs.Slice.Iter.{iter_rest}
use Rattle.std.proofs.ByRecursion.{All-from_get_or}
use Rattle.std.proofs.lemmas.Bool.{eqb-true, eqb-false}
use Rattle.packing.proofs.Digits.{length_digits}
use Rattle.packing.specs.Packing.{joined}
use Rattle.column.specs.Columns.{word_bits}
use Rattle.column.proofs.WordLaws.{Words, word-bit}
use Rattle.runs.proofs.SpreadLaws.{spread-value, spread-blank, spread-as, spread-all}
use Rattle.runs.proofs.spread.spread_by_rows.Goals as goal
use Rattle.runs.proofs.spread.spread_by_rows.Goals.{then-is_set, else-is_set}

pub loop-i-preserved : goal.loop-i-preserved
loop-i-preserved c =
    let n = length c.args.cells.now in
    let ws = c.args.words.now in
    let i = c.loop-i.i in
    let s = c.loop-i.invariant in
    let a : Words ws = All-from_get_or (λ w. w < 2 ^ 64) ws 0 (λ i h. search rules) in
    let b : get_or (word_bits n ws) i 0 ≡ get_or ws (i / 64) 0 / 2 ^ (i % 64) % 2 = word-bit n ws i a c.loop-i-test.true in
    let lb : length (word_bits n ws) ≡ n = length_digits 2 n (joined (2 ^ 64) ws) in
    elim c.if-is_set.branch [
      | then-is_set w ↦ spread-as (spread-value c.loop-i.rest w.next.new.self w.next.result s w.next.ensures.steps w.unwrap_or.result (omega arith) (omega arith) (b ∙ eqb-true _ _ (sym c.is_set.ensures ∙ w.if-is_set.true)) (w.unwrap_or.ensures ∙ ap (λ o. unwrap_or o 0) w.copied.ensures)) w.cells-is (ap iter_rest w.rest-is)
      | else-is_set w ↦ spread-as (spread-blank s (omega arith) (omega arith) (omega arith) (λ e. eqb-false _ _ (sym c.is_set.ensures ∙ w.if-is_set.false) (sym b ∙ e))) w.cells-is (ap iter_rest w.rest-is)
    ]

pub returns : goal.returns
returns c =
    let n = length c.args.cells.now in
    let ws = c.args.words.now in
    let lb : length (word_bits n ws) ≡ n = length_digits 2 n (joined (2 ^ 64) ws) in
    spread-all c.loop-i.invariant (omega arith) (omega arith)
