use Rattle.std.proofs.Common.{◌≡◌, ◌++◌, map, take, drop}
use Rattle.column.specs.Kinds.{key, number_of}
use Rattle.stats.proofs.distinct.turn.Given as goal

abbrev pub invariant-loop-cell : goal.invariant-loop-cell
invariant-loop-cell l = l.cells ≡ map (key (number_of l.kind)) (take l.cell-index l.initial.cells) ++ drop l.cell-index l.initial.cells
