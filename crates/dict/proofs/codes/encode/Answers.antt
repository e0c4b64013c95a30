use Rattle.std.proofs.Common.{◌≡◌, ◌<◌, [], ◌∷◌, ◌++◌, map, length, get_or, None, sym, ap, ◌∙◌, arith}
use Rattle.std.proofs.lemmas.List.{map_more, take_all, take_more_set}
use Rattle.column.specs.Columns.{offer_seen, offered}
use Rattle.column.proofs.RowLaws.{length-offered}
use Rattle.dict.proofs.CodeLaws.{code_cell, code-cells, value-at, blank-at, known_at}
use Rattle.dict.proofs.codes.encode.Goals as goal
use Rattle.dict.proofs.codes.encode.Goals.{then-is_present, else-is_present}

pub place_of-requires : goal.place_of-requires
place_of-requires c =
    record {
      ascends = c.requires.ascends;
      known = known_at c.args.distinct.now (offer_seen c.args.array) c.loop-i.i (omega arith) c.if-is_present.ensures c.requires.known;
    }

pub loop-i-preserved : goal.loop-i-preserved
loop-i-preserved c =
    let o = offer_seen c.args.array in
    let ds = c.args.distinct.now in
    let i = c.loop-i.i in
    let n = length-offered o in
    let t : i < length c.args.array.cells.now = omega arith in
    let y : c.if-is_present.code ≡ code_cell ds (get_or (offered o) i None) =
    elim c.if-is_present.branch [
      | then-is_present w ↦ w.code-is ∙ w.place_of.ensures ∙ ap (code_cell ds) (sym (value-at o i t (sym w.if-is_present.true ∙ c.is_present.ensures)))
      | else-is_present w ↦ w.code-is ∙ ap (code_cell ds) (sym (blank-at o i t (sym w.if-is_present.false ∙ c.is_present.ensures)))
    ] in
    take_more_set c.loop-i.out i c.if-is_present.code (omega arith)
    ∙ (λ s. c.loop-i.invariant s ++ (y s ∷ []))
    ∙ sym (map_more (code_cell ds) (offered o) i None (omega arith))

pub returns : goal.returns
returns c =
    let o = offer_seen c.args.array in
    let ds = c.args.distinct.now in
    let n = length-offered o in
    let i = c.loop-i.i in
    sym (take_all i c.loop-i.out (omega arith))
    ∙ c.loop-i.invariant
    ∙ ap (map (code_cell ds)) (take_all i (offered o) (omega arith))
    ∙ code-cells ds (offered o)
