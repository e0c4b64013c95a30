use Rattle.std.proofs.Common.{arith}
use Rattle.column.specs.Kinds.{number_of}
use Rattle.dict.proofs.PlaceLaws.{at-place}
use Rattle.dict.proofs.codes.place_of.Goals as goal

pub returns-then-distinct-guess : goal.returns-then-distinct-guess
returns-then-distinct-guess c =
    at-place (number_of c.args.kind) c.args.value c.args.distinct.now c.value_at-guess.result c.requires.ascends c.requires.known (omega arith) c.if-distinct-guess.true
