use Rattle.std.proofs.Common.{◌<◌, ◌≤◌, [], ◌∷◌, ◌++◌, map, length, None, sym, ap, ◌∙◌, arith}
use Rattle.std.proofs.lemmas.List.{map_more, take_all, take_more_set}
use Rattle.column.specs.Kinds.{number_of}
use Rattle.column.specs.Columns.{seen}
use Rattle.column.proofs.ViewLaws.{view-rows}
use Rattle.frame.specs.Frame.{over_base}
use Rattle.frame.proofs.Distances.{distance_is}
use Rattle.frame.proofs.payloads.write_distances.Goals as goal

pub loop-i-preserved : goal.loop-i-preserved
loop-i-preserved c =
    let v = c.args.array.view in
    let i = c.loop-i.i in
    let n = view-rows v in
    let row : i < length (seen v).rows = omega arith in
    let place : i < length c.loop-i.out = omega arith in
    let cell : i < length v.cells.now = omega arith in
    let d = distance_is v c.args.least i c.is_present.result c.distance.result c.args.array.clean c.requires.least cell c.is_present.ensures c.distance.ensures in
    take_more_set c.loop-i.out i c.distance.result place
    ∙ (λ t. c.loop-i.invariant t ++ (d t ∷ []))
    ∙ sym (map_more (over_base (number_of v.kind) c.args.least) (seen v).rows i None row)

pub returns : goal.returns
returns c =
    let v = c.args.array.view in
    let i = c.loop-i.i in
    let n = view-rows v in
    let rows : length (seen v).rows ≤ i = omega arith in
    let places : length c.loop-i.out ≤ i = omega arith in
    sym (take_all i c.loop-i.out places)
    ∙ c.loop-i.invariant
    ∙ ap (map (over_base (number_of v.kind) c.args.least)) (take_all i (seen v).rows rows)
