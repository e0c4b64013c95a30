use Rattle.std.proofs.Common.{◌++◌, [], ◌∷◌, map, sym, ap, ◌∙◌, arith}
use Rattle.std.proofs.lemmas.List.{map_more, take_all, take_more_set}
use Rattle.dict.specs.Dict.{decode_cell}
use Rattle.dict.proofs.codes.decode.Goals as goal

pub loop-i-preserved : goal.loop-i-preserved
loop-i-preserved c =
    let i = c.loop-i.i in
    take_more_set c.loop-i.out i c.value_at.result (omega arith)
    ∙ (λ t. c.loop-i.invariant t ++ (c.value_at.ensures t ∷ []))
    ∙ sym (map_more (decode_cell c.args.distinct.now) c.args.codes.now i 0 (omega arith))

pub returns : goal.returns
returns c =
    let i = c.loop-i.i in
    sym (take_all i c.loop-i.out (omega arith))
    ∙ c.loop-i.invariant
    ∙ ap (map (decode_cell c.args.distinct.now)) (take_all i c.args.codes.now (omega arith))
