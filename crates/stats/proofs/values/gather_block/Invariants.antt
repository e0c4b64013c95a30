use Rattle.std.proofs.Common.{◌≡◌, ◌+◌, ◌≤◌, ◌++◌, length, take, drop}
use Rattle.stats.specs.Blocks.{kept_from}
use Rattle.stats.proofs.values.gather_block.Given as goal

abbrev pub invariant-loop-i : goal.invariant-loop-i
invariant-loop-i l = (take l.n l.out ++ kept_from l.block.word l.i (drop l.i l.block.cells.now) ≡ take l.at l.initial.out ++ kept_from l.block.word 0 l.block.cells.now) × (l.n ≤ l.at + l.i)
    × (drop (l.at + length l.block.cells.now) l.out ≡ drop (l.at + length l.block.cells.now) l.initial.out)
