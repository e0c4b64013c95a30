-- A view's slices by the column's rows; the cells and words are those of a clean column.
use Rattle.std.proofs.Common.{◌≡◌, length, ap, ◌∙◌, arith}
use Rattle.column.specs.declared.views.View.{View}
use Rattle.column.specs.Columns.{Offer, Sound, CleanView, cells, presence, offer_seen, seen, words_for}
use Rattle.column.proofs.RowLaws.{length-offered, clean-short, length_digits}

pub view-rows : (v : View) → length (seen v).rows ≡ length v.cells.now
view-rows v = length-offered (offer_seen v)

pub view-cells : (v : View) → CleanView v → v.cells.now ≡ cells (seen v).rows
view-cells v h = ap (λ (o : Offer). o.cells) h.stored

pub view-words : (v : View) → CleanView v → v.words.now ≡ presence (seen v).rows
view-words v h = ap (λ (o : Offer). o.words) h.stored

-- a view of a cleaned column has a word for each 64 rows, and no more rows than a column may have
pub view-sound : (v : View) → CleanView v → Sound v
view-sound v h =
    let rows = view-rows v in
    let short = clean-short (seen v) h.clean in
    record { few = omega (arith, rows, short); words = ap length (view-words v h) ∙ length_digits _ _ _ ∙ ap words_for rows }
