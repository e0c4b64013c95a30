use Rattle.std.proofs.Common.{◌≡◌, length}
use Rattle.std.specs.Iterator.Adapters.{zip_first, zip_second}
use Rattle.std.specs.Slice.Iter.{iter_rest, chunks_rest, chunks_size}
use Rattle.column.specs.Words.{words_for}
use Rattle.column.specs.Columns.{has_blank, seen}
use Rattle.column.proofs.WordLaws.{word_rows}
use Rattle.column.proofs.views.View.has_blank.Given as goal

-- the blocks to come have a blank where there is one
abbrev pub invariant-loop-cells : goal.invariant-loop-cells
invariant-loop-cells l =
    let ws = iter_rest (zip_second l.cells-iterator) in
    let cs = chunks_rest (zip_first l.cells-iterator) in
    goal.iterator-loop-cells.can_next l.cells-iterator × goal.iterator-loop-cells.is_finite l.cells-iterator × (chunks_size (zip_first l.cells-iterator) ≡ 64)
    × (length ws ≡ words_for (length cs)) × (has_blank (word_rows ws cs) ≡ has_blank (seen l.self).rows)
