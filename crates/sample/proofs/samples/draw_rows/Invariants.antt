use Rattle.std.proofs.Common.{◌≡◌, ◌*◌}
use Rattle.packing.specs.Packing.{written, written_at}
use Rattle.column.specs.Columns.{cells, presence, seen}
use Rattle.sample.specs.Samples.{strata, seed}
use Rattle.sample.proofs.Steps.{asked, rest}
use Rattle.sample.proofs.samples.draw_rows.Given as goal

-- the draws so far, and what is left to write
abbrev pub invariant-loop-i : goal.invariant-loop-i
invariant-loop-i g l =
    (l.source ≡ g.D.Draws.after seed (asked (strata l.rows l.count) l.i))
    × (written_at (64 * l.i) (cells (rest g.D.Draws.source (strata l.rows l.count) l.i (seen l.array.view).rows)) l.cells
    ≡ written (cells (rest g.D.Draws.source (strata l.rows l.count) 0 (seen l.array.view).rows)) l.initial.cells)
    × (written_at l.i (presence (rest g.D.Draws.source (strata l.rows l.count) l.i (seen l.array.view).rows)) l.words
    ≡ written (presence (rest g.D.Draws.source (strata l.rows l.count) 0 (seen l.array.view).rows)) l.initial.words)
