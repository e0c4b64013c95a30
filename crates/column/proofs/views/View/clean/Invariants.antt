use Rattle.std.proofs.Common.{◌≡◌, ◌*◌}
use Rattle.std.specs.Iterator.Adapters.{enumerate_source, enumerate_count, zip_first, zip_second}
use Rattle.std.specs.Slice.Iter.{iter_rest, chunks_rest, chunks_size}
use Rattle.column.proofs.CleanLaws.{Cleaning}
use Rattle.column.proofs.views.View.clean.Given as goal

abbrev pub invariant-loop-b : goal.invariant-loop-b
invariant-loop-b l =
    let pairs = enumerate_source l.b-iterator in
    goal.iterator-loop-b.can_next l.b-iterator × goal.iterator-loop-b.is_finite l.b-iterator × (chunks_size (zip_first pairs) ≡ 64)
    × Cleaning l.self.words.now l.self.cells.now l.initial.out l.out (iter_rest (zip_second pairs)) (chunks_rest (zip_first pairs)) (64 * enumerate_count l.b-iterator)
