use Rattle.std.proofs.Common.{◌≡◌, map, take}
use Rattle.column.specs.Columns.{seen}
use Rattle.dict.proofs.CodeLaws.{code_cell}
use Rattle.dict.proofs.codes.encode.Given as goal

abbrev pub invariant-loop-i : goal.invariant-loop-i
invariant-loop-i l = take l.i l.out ≡ map (code_cell l.distinct) (take l.i (seen l.array).rows)
