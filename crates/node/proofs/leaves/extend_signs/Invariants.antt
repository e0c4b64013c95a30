use Rattle.std.proofs.Common.{◌≡◌, ◌++◌, map, take, drop}
use Rattle.node.proofs.WidthLaws.{raised}
use Rattle.node.proofs.leaves.extend_signs.Given as goal

abbrev pub invariant-loop-c : goal.invariant-loop-c
invariant-loop-c l = l.cells ≡ map (raised l.greatest l.gap) (take l.c-index l.initial.cells) ++ drop l.c-index l.initial.cells
