use Rattle.std.proofs.Common.{◌≡◌, ◌/◌, ◌^◌, ◌++◌, take, drop}
use Rattle.column.specs.Columns.{cells}
use Rattle.column.specs.Views.{block_rows}
use Rattle.column.proofs.blocks.Block.clean_cells.Given as goal

-- what is written, and what is to come, where the cells still stand
abbrev pub invariant-loop-i : goal.invariant-loop-i
invariant-loop-i l = (take l.i l.out ++ cells (block_rows (l.self.word / 2 ^ l.i) (drop l.i l.self.cells.now)) ≡ cells (block_rows l.self.word l.self.cells.now)) × (drop l.i l.out ≡ drop l.i l.self.cells.now)
