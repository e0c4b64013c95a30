use Rattle.std.proofs.Common.{◌≡◌, map, take}
use Rattle.column.specs.Kinds.{number_of}
use Rattle.column.specs.Columns.{seen}
use Rattle.frame.specs.Frame.{over_base}
use Rattle.frame.proofs.payloads.write_distances.Given as goal

-- what is written
abbrev pub invariant-loop-i : goal.invariant-loop-i
invariant-loop-i l = take l.i l.out ≡ map (over_base (number_of l.array.view.kind) l.least) (take l.i (seen l.array.view).rows)
