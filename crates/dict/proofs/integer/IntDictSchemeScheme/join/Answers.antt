use Rattle.std.proofs.Common.{◌≡◌, ◌-◌, length, take, sym, ap, ◌∙◌, arith, rules}
use Rattle.column.specs.Kinds.{number_of}
use Rattle.column.specs.Columns.{offer_seen, seen, values, rows_of, word_bits}
use Rattle.column.proofs.RowLaws.{length-offered}
use Rattle.dict.specs.Dict.{decoded_cells}
use Rattle.dict.proofs.ShapeLaws.{joined-codes, joined-blank}
use Rattle.dict.proofs.integer.IntDictSchemeScheme.join.Goals as goal

pub returns-then-rows-stored : goal.returns-then-rows-stored
returns-then-rows-stored c =
    let s = c.args.stored in
    ap (λ rs. record { kind = number_of s.kind; rows = rs })
    (joined-blank s.rows _ (values (seen s.child0)) c.args.cells.now c.fill.new.self (seen s.child1).rows c.requires.joinable.cells (c.fill.ensures.after (λ y e. search rules))
    (λ e. c.if-rows-stored.true (c.rows.ensures ∙ sym (length-offered (offer_seen s.child1)) ∙ e)))

pub returns : goal.returns
returns c =
    let s = c.args.stored in
    let n = c.gather-count.result in
    let out = c.gather-count.new.out in
    let ds = values (seen s.child0) in
    let found : take (n - 0) out ≡ ds = ap (λ z. take z out) (let s : n - 0 ≡ n = omega arith in s) ∙ c.gather-count.ensures.front in
    let codes = s.child1.cells.now in
    ap (λ rs. record { kind = number_of s.kind; rows = rs })
    (ap (λ ws. rows_of (word_bits (length c.decode.new.out) ws) c.decode.new.out) c.copy_from_slice.ensures.after
    ∙ joined-codes s.rows ds codes s.child1.words.now c.decode.new.out (sym c.rows.ensures ∙ c.if-rows-stored.false) (c.decode.ensures ∙ ap (λ xs. decoded_cells xs codes) found))
