use Rattle.std.proofs.Common.{◌≡◌, map, take}
use Rattle.dict.specs.Dict.{decode_cell}
use Rattle.dict.proofs.codes.decode.Given as goal

abbrev pub invariant-loop-i : goal.invariant-loop-i
invariant-loop-i l = take l.i l.out ≡ map (decode_cell l.distinct) (take l.i l.codes)
