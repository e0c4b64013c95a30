use Rattle.std.proofs.Common.{◌≡◌, length, None, sym, ap, ◌∙◌, arith}
use Rattle.std.proofs.lemmas.List.{take_all}
use Rattle.column.specs.Columns.{Column, cells, cleaned, offer_refused, offer_seen, seen, words_for}
use Rattle.column.specs.Views.{with_cells}
use Rattle.column.proofs.RowLaws.{length-cells}
use Rattle.column.proofs.ViewLaws.{view-rows}
use Rattle.compressor.proofs.Cleaning.{all-written, unrefused-sound}
use Rattle.compressor.proofs.cleaned.cleaned.Goals as goal

pub clean-requires : goal.clean-requires
clean-requires c = record { sound = unrefused-sound c.args.view c.requires.taken; room = omega arith }

pub stored-requires : goal.stored-requires
stored-requires c =
    let v = c.args.view in
    let k = c.clean.auto.out in
    let r = c.requires.room in
    let sound = unrefused-sound v c.requires.taken in
    let f = sound.few in
    let out = c.clean.new.out in
    let all = take_all (length v.cells.now) out (omega arith) in
    let w = sound.words ∙ ap words_for (sym (k ∙ r)) in
    let refused : offer_refused (with_cells (offer_seen v) out) ≡ None = ap (λ cs. offer_refused (with_cells (offer_seen v) cs)) (sym all) ∙ c.clean.ensures.again.refused ∙ c.requires.taken in
    let column : cleaned (with_cells (offer_seen v) out) ≡ seen v = ap (λ cs. cleaned (with_cells (offer_seen v) cs)) (sym all) ∙ c.clean.ensures.again.column in
    let n = length-cells (seen v).rows ∙ view-rows v in
    let new = c.clean.ensures.written ∙ all-written (cells (seen v).rows) c.args.cells.now (omega arith) in
    record { few = omega arith; worded = w; taken = refused; blanks = new ∙ ap (λ (x : Column). cells x.rows) (sym column) }

pub returns : goal.returns
returns c =
    let v = c.args.view in
    let k = c.clean.auto.out in
    let r = c.requires.room in
    let all = take_all (length v.cells.now) c.clean.new.out (omega arith) in
    let column = ap (λ cs. cleaned (with_cells (offer_seen v) cs)) (sym all) ∙ c.clean.ensures.again.column in
    record { column = c.stored.ensures.column ∙ column; rows = c.stored.ensures.rows ∙ k ∙ r }
