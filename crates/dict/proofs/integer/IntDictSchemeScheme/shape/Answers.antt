use Rattle.std.proofs.Common.{◌≡◌, ◌-◌, ◌≤◌, map, length, take, sym, ap, ◌∙◌, subst, arith}
use Rattle.std.proofs.lemmas.List.{length-take-le, take_at}
use Rattle.column.specs.Kinds.{number_of}
use Rattle.column.specs.Columns.{seen, offer_seen, values, cells, words_for}
use Rattle.column.proofs.RowLaws.{length-offered}
use Rattle.stats.specs.Laws.{Ascends}
use Rattle.scheme.specs.Children.{narrow}
use Rattle.dict.specs.Dict.{Known, distinct_values, code_row}
use Rattle.dict.proofs.ShapeLaws.{shaped, distinct-ascends, distinct-known}
use Rattle.dict.proofs.integer.IntDictSchemeScheme.shape.Goals as goal

pub encode-requires : goal.encode-requires
encode-requires c =
    let view = c.args.array.view in
    let n = c.list_distinct-count.result in
    let out = c.list_distinct-count.new.out in
    let found : take (n - 0) out ≡ distinct_values (seen view) = ap (λ z. take z out) (let s : n - 0 ≡ n = omega arith in s) ∙ c.list_distinct-count.ensures.front in
    let rows = c.rows-rows.ensures in
    record {
      sound = c.args.array.sound;
      ascends = subst (Ascends (number_of view.kind)) (sym found) (distinct-ascends (seen view) c.args.array.clean.clean);
      known = subst (λ ds. Known ds (values (seen view))) (sym found) (distinct-known (seen view));
      room = length-take-le (c.rows-rows.result - 0) c.args.cells1.now (omega arith) ∙ omega arith;
    }

pub returns : goal.returns
returns c =
    let view = c.args.array.view in
    let rs = (seen view).rows in
    let ds = distinct_values (seen view) in
    let n = c.list_distinct-count.result in
    let out = c.list_distinct-count.new.out in
    let front = c.list_distinct-count.ensures.front in
    let few = c.list_distinct-count.ensures.few in
    let kept = c.list_distinct-count.auto in
    let found : take (n - 0) out ≡ ds = ap (λ z. take z out) (let s : n - 0 ≡ n = omega arith in s) ∙ front in
    let room : n ≤ length out = omega arith in
    let len : n ≡ length ds = sym (length-take-le n out room) ∙ ap length front in
    let rows = c.rows-rows.ensures in
    let codes : length c.encode.new.out ≡ c.rows-rows.result =
    c.encode.auto.out ∙ length-take-le (c.rows-rows.result - 0) c.args.cells1.now (omega arith) ∙ omega arith in
    let words = c.copy_from_slice.ensures.after in
    shaped (seen view) n c.rows-rows.result (number_of c.codes_kind.result) out c.read_mask.new.words _ _ _
    front
    room
    c.read_mask.ensures
    (rows ∙ sym (length-offered (offer_seen view)))
    (take_at c.encode.new.out _ c.rows-rows.result codes ∙ c.encode.ensures ∙ ap (λ xs. cells (map (code_row xs) rs)) found)
    (take_at c.copy_from_slice.new.self _ (words_for c.rows-rows.result) (ap length words ∙ c.args.array.sound.words ∙ ap words_for (sym rows)) ∙ words ∙ ap (λ o. o.words) c.args.array.clean.stored)
    (c.codes_kind.ensures ∙ ap (λ x. narrow (x - 1)) len)
