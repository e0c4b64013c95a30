use Rattle.std.proofs.Common.{◌<◌, ◌≤◌, length, get_or, set, map, ap, ◌∙◌, arith}
use Rattle.std.proofs.lemmas.List.{take_all, drop_all, append-nil, get_or_default}
use Rattle.std.proofs.lemmas.List.Edits.{map_over_more}
use Rattle.column.specs.Kinds.{key, number_of}
use Rattle.stats.proofs.distinct.turn.Goals as goal

pub loop-cell-preserved : goal.loop-cell-preserved
loop-cell-preserved c =
    let f = key (number_of c.args.kind) in
    let xs = c.args.cells.now in
    let ys = c.loop-cell.cells in
    let i = c.loop-cell.cell-index in
    let x = get_or ys i 0 in
    let lt : i < length ys = omega arith in
    let lx : i < length xs = omega arith in
    ap (set ys i) c.key.ensures ∙ map_over_more f xs ys i x lx c.loop-cell.invariant (get_or_default ys i 0 x lt)

pub returns : goal.returns
returns c =
    let f = key (number_of c.args.kind) in
    let xs = c.args.cells.now in
    let le : length xs ≤ c.loop-cell.cell-index = omega arith in
    c.loop-cell.invariant ∙ rw (take_all c.loop-cell.cell-index xs le, drop_all c.loop-cell.cell-index xs le) (append-nil (map f xs))
