-- The first 13 of the cells is that of the rows.
use Rattle.std.proofs.Common.{◌≡◌, ℕ, suc, ◌+◌, Bool, true, false, cond, eqb, List, [], ◌∷◌, Some, None, Option, refl, ap, ◌∙◌, add-one}
use Rattle.std.specs.List.{position, position_from}
use Rattle.std.proofs.lemmas.Iterator.Adapters.{position_from-zero}
use Rattle.column.specs.declared.views.View.{View}
use Rattle.column.specs.Columns.{Row, cells, seen, CleanView}
use Rattle.stern.specs.Stern.{thirteen_by, thirteen_from}

by-test : (q : Bool) (i : ℕ) (later : Option ℕ) → cond q (Some i) later ≡ thirteen_by q i later
by-test true i later = refl
by-test false i later = refl

-- the cell under a blank is not 13
in_cells : (i : ℕ) (rs : List Row) → position_from (λ w. eqb w 13) i (cells rs) ≡ thirteen_from i rs
in_cells i [] = refl
in_cells i (None ∷ rs) = ap (λ j. position_from (λ w. eqb w 13) j (cells rs)) (add-one i) ∙ in_cells (suc i) rs
in_cells i (Some v ∷ rs) =
    by-test (eqb v 13) i (position_from (λ w. eqb w 13) (i + 1) (cells rs))
    ∙ ap (thirteen_by (eqb v 13) i) (ap (λ j. position_from (λ w. eqb w 13) j (cells rs)) (add-one i) ∙ in_cells (suc i) rs)

pub in-view : (v : View) → CleanView v → position (λ w. eqb w 13) v.cells.now ≡ thirteen_from 0 (seen v).rows
in-view v h =
    ap (λ o. position (λ w. eqb w 13) o.cells) h.stored
    ∙ position_from-zero (λ w. eqb w 13) (cells (seen v).rows)
    ∙ in_cells 0 (seen v).rows
