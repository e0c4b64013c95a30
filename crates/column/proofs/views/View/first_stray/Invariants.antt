use Rattle.std.proofs.Common.{◌≡◌, ◌-◌, ◌*◌, length}
use Rattle.std.specs.Iterator.Adapters.{enumerate_source, enumerate_count, zip_first, zip_second}
use Rattle.std.specs.Slice.Iter.{iter_rest, chunks_rest, chunks_size}
use Rattle.column.specs.Kinds.{number_of}
use Rattle.column.specs.Words.{words_for}
use Rattle.column.specs.Columns.{stray_from, seen}
use Rattle.column.proofs.WordLaws.{word_rows}
use Rattle.column.proofs.views.View.first_stray.Given as goal

-- the blocks to come have the first
abbrev pub invariant-loop-b : goal.invariant-loop-b
invariant-loop-b l =
    let pairs = enumerate_source l.b-iterator in
    let ws = iter_rest (zip_second pairs) in
    let cs = chunks_rest (zip_first pairs) in
    goal.iterator-loop-b.can_next l.b-iterator × goal.iterator-loop-b.is_finite l.b-iterator × (chunks_size (zip_first pairs) ≡ 64)
    × (length ws ≡ words_for (length cs)) × (length cs ≡ length l.self.cells.now - 64 * enumerate_count l.b-iterator)
    × (stray_from (number_of l.self.kind) (64 * enumerate_count l.b-iterator) (word_rows ws cs) ≡ stray_from (number_of l.self.kind) 0 (seen l.self).rows)
