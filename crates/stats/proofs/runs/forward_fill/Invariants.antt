use Rattle.std.proofs.Common.{◌≡◌, ◌++◌, take, drop}
use Rattle.stats.specs.Blocks.{filled_from}
use Rattle.stats.proofs.runs.forward_fill.Given as goal

abbrev pub invariant-loop-i : goal.invariant-loop-i
invariant-loop-i l = take l.i l.filled ++ filled_from l.valid l.i l.last (drop l.i l.filled) ≡ filled_from l.valid 0 l.initial.last l.initial.filled
