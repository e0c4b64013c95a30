use Rattle.std.proofs.Common.{◌≡◌, ◌++◌, take, drop}
use Rattle.frame.specs.Frame.{added_to}
use Rattle.frame.proofs.payloads.add_to_each.Given as goal

-- what is done, and what is to come
abbrev pub invariant-loop-c : goal.invariant-loop-c
invariant-loop-c l = l.cells ≡ added_to l.least (take l.c-index l.initial.cells) ++ drop l.c-index l.initial.cells
