use Rattle.std.proofs.Common.{◌≡◌, ◌+◌, ◌/◌, ◌^◌, drop}
use Rattle.column.specs.Kinds.{number_of}
use Rattle.column.specs.Columns.{stray_from}
use Rattle.column.specs.Views.{block_rows}
use Rattle.column.proofs.blocks.Block.first_stray.Given as goal

-- the rows to come have the first
abbrev pub invariant-loop-i : goal.invariant-loop-i
invariant-loop-i l = stray_from (number_of l.kind) (l.start + l.i) (block_rows (l.self.word / 2 ^ l.i) (drop l.i l.self.cells.now)) ≡ stray_from (number_of l.kind) (l.start + 0) (block_rows (l.self.word / 2 ^ 0) l.self.cells.now)
