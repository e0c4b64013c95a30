use Rattle.std.proofs.Common.{◌≡◌, ◌^◌, ◌<◌, length, sym, ◌∙◌, rules, arith}
use Rattle.std.proofs.lemmas.Bool.{eqb-true, eqb-false}
use Rattle.std.proofs.ByRecursion.{All-from_get_or}
use Rattle.column.proofs.WordLaws.{Words}
use Rattle.reading.proofs.ClearLaws.{bit_at, cleared, length-cleared, done-value, done-blank, done-all}
use Rattle.reading.proofs.cleared.clear_blanks.Goals as goal
use Rattle.reading.proofs.cleared.clear_blanks.Goals.{then-not-is_set, else-not-is_set}

pub loop-i-preserved : goal.loop-i-preserved
loop-i-preserved c =
    let cs = c.args.cells.now in
    let ws = c.args.words.now in
    let i = c.loop-i.i in
    let now = c.loop-i.cells in
    let a : Words ws = All-from_get_or (λ w. w < 2 ^ 64) ws 0 (λ k h. search rules) in
    let h : i < length cs = omega arith in
    let l : length now ≡ length cs = omega arith in
    let b = bit_at ws i in
    elim c.if-not-is_set.branch [
      | then-not-is_set w ↦ done-blank cs ws now i a h l c.loop-i.invariant (eqb-false b 1 (sym c.is_set.ensures ∙ w.if-not-is_set.true)) c.if-not-is_set.cells w.cells-is
      | else-not-is_set w ↦ done-value cs ws now i a h l c.loop-i.invariant (eqb-true b 1 (sym c.is_set.ensures ∙ w.if-not-is_set.false)) c.if-not-is_set.cells w.cells-is
    ]

pub returns : goal.returns
returns c =
    let cs = c.args.cells.now in
    let ws = c.args.words.now in
    let k = length-cleared cs ws in
    done-all (cleared cs ws) cs c.loop-i.cells c.loop-i.i (omega arith) (omega arith) c.loop-i.invariant
