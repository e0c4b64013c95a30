use Rattle.std.proofs.Common.{◌≡◌}
use Rattle.std.specs.Iterator.Adapters.{zip_first, zip_second}
use Rattle.std.specs.Slice.Iter.{iter_rest, chunks_rest, chunks_size}
use Rattle.stats.proofs.Blocking.{Counted}
use Rattle.stats.proofs.runs.LoopState.count_runs.Given as goal

abbrev pub invariant-loop-cells : goal.invariant-loop-cells
invariant-loop-cells l =
    goal.iterator-loop-cells.can_next l.cells-iterator × goal.iterator-loop-cells.is_finite l.cells-iterator × (chunks_size (zip_first l.cells-iterator) ≡ 64)
    × Counted l.view.words.now l.view.cells.now l.initial.self.runs l.initial.self.prev l.self.runs l.self.prev (iter_rest (zip_second l.cells-iterator)) (chunks_rest (zip_first l.cells-iterator))
