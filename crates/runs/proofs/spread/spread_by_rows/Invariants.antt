use Rattle.std.proofs.Common.{length}
use Rattle.std.specs.Slice.Iter.{iter_rest}
use Rattle.column.specs.Columns.{word_bits}
use Rattle.runs.proofs.SpreadLaws.{Spread}
use Rattle.runs.proofs.spread.spread_by_rows.Given as goal

abbrev pub invariant-loop-i : goal.invariant-loop-i
invariant-loop-i l = Spread (word_bits (length l.initial.cells) l.words) l.values l.cells l.i (iter_rest l.rest)
