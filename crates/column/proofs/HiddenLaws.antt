-- What stands under blanks changes nothing.
use Rattle.std.proofs.Common.{◌≡◌, ℕ, ◌^◌, List, length, take, drop, ap, ◌∙◌}
use Rattle.std.proofs.lemmas.List.{take_at}
use Rattle.packing.specs.Packing.{written, joined}
use Rattle.column.specs.declared.views.View.{View}
use Rattle.column.specs.Columns.{Offer, rows_of, cells, offered, word_bits, refused_by, offer_seen, seen}
use Rattle.column.specs.Views.{Hidden, Again, with_cells}
use Rattle.column.proofs.RowLaws.{length-offered, length-cells, rows-again, rows_alike}

pub hidden : (a : Offer) → Hidden a
hidden a b h =
    let rs : offered a ≡ offered b = rows_alike (length a.cells) (joined (2 ^ 64) a.words) a.cells b.cells h.values ∙ (λ i. rows_of (word_bits (h.rows i) (h.words i)) b.cells) in
    ((λ i. record { kind = h.kind i; rows = rs i }), λ i. refused_by (h.kind i) (h.rows i) (h.words i) (rs i))

-- the cells with 0 under blanks
pub length-cleaned : (o : Offer) → length (cells (offered o)) ≡ length o.cells
length-cleaned o = length-cells (offered o) ∙ length-offered o

pub offered-again : (o : Offer) → offered (with_cells o (cells (offered o))) ≡ offered o
offered-again o =
    ap (λ n. rows_of (word_bits n o.words) (cells (offered o))) (length-cleaned o) ∙ rows-again (word_bits (length o.cells) o.words) o.cells

pub again : (v : View) (out old : List ℕ) → out ≡ written (cells (seen v).rows) old → Again v (take (length v.cells.now) out)
again v out old e =
    let o = offer_seen v in
    let cs = cells (offered o) in
    let n = length-cleaned o in
    let front : take (length o.cells) out ≡ cs = ap (take (length o.cells)) e ∙ take_at cs (drop (length cs) old) (length o.cells) n in
    let rs : offered (with_cells o (take (length o.cells) out)) ≡ offered o = ap (λ z. offered (with_cells o z)) front ∙ offered-again o in
    let len : length (take (length o.cells) out) ≡ length o.cells = ap length front ∙ n in
    record {
      column = λ i. record { kind = o.kind; rows = rs i };
      refused = λ i. refused_by o.kind (len i) o.words (rs i);
    }
