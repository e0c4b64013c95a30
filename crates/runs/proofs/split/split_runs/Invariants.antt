use Rattle.std.specs.Slice.Iter.{chunk_by_rest}
use Rattle.runs.proofs.SplitLaws.{Split}
use Rattle.runs.proofs.split.split_runs.Given as goal

abbrev pub invariant-loop-run : goal.invariant-loop-run
invariant-loop-run l =
    (goal.iterator-loop-run).can_next l.run-iterator × (goal.iterator-loop-run).is_finite l.run-iterator
    × Split l.values l.firsts l.ends l.before l.runs (chunk_by_rest l.run-iterator)
